-- What a pass of the board with a lock for each mailbox knows after it was told what another had seen.
use Rattle.std.proofs.Common.{◌≡◌, ◌⊎◌, inl, inr, ℕ, ◌||◌, Bool, true, false, List, [], ◌∷◌, ◌++◌, length}
use Rattle.std.proofs.Common.{Some, None, refl, sym, ap, ◌∙◌, subst, arith, Option, lt_of_not-le, get_or}
use Rattle.std.proofs.lemmas.Bool.{or_right}
use Rattle.std.proofs.lemmas.List.{append-nil}
use native.Mathlib.Decide.{dec_le}
use lib.ListN.{get_elem?}
use Rattle.atomic_table.specs.Seated.{TableId}
use Rattle.ticket_lock.specs.declared.hand.Hand.{Hand}
use Rattle.ticket_lock.proofs.LoneSteps.{longer_first, longer_second}
use Rattle.post_ledger.specs.Orders.{own}
use Rattle.switchboard.specs.declared.calls.Abort.{Abort}
use Rattle.switchboard.specs.declared.lock_per_box.knowing.Seen.{Seen}
use Rattle.switchboard.specs.Sights.{Sight, Account}
use Rattle.switchboard.specs.Promises.{Learned}
use Rattle.switchboard.specs.Knowing.{fresh_hand, merged_hands, either_abort, both_seen, only_seen, merged_seats, informed}
use Rattle.switchboard.specs.PerBox.{SeatView, SeatTookIn, Seat}
use Rattle.switchboard.specs.BoxPasses.{IsIdleHand, box_sight, box_account, IsBoxPass, IsBoxTold}
use Rattle.switchboard.proofs.BoxCalls.{Later, own_part, first_later, step_later, seen_on, goes, pass_on, same_lanes}

merged_none : {T : Type 0} (hs : List (Hand T)) → merged_hands hs [] ≡ hs
merged_none [] = refl
merged_none (h ∷ hs) = refl

one_abort : (a b : Option Abort) → (either_abort a b ≡ a) ⊎ (either_abort a b ≡ b)
one_abort None b = inr refl
one_abort (Some c) b = inl refl

either_knew : (a b : Bool) → a || b ≡ true → (a ≡ true) ⊎ (b ≡ true)
either_knew true b e = inl refl
either_knew false b e = inr e

module _ {M W : Type 0} (fits : W → ℕ → M → Type 0) (id : TableId) (number left : ℕ) (made : Bool) (w : W) (boxes : ℕ) (m : Seat M W)
    (p : IsBoxPass fits id number left made w boxes m) where
  module _ (told : Seat M W) (told_id : TableId) (t : IsBoxTold told_id told) (u : Seat M W)
      (took : SeatTookIn fits (merged_seats m.0 told.0, m.1) u) (id' : TableId) (same : id' ≡ id) where
    abbrev x : Seen M
    x = told.0.seen

    abbrev n : SeatView M W
    n = merged_seats m.0 told.0

    blank : told.0 ≡ only_seen x
    blank = ap (λ (z : Seat M W). z.0) t.blank

    hands : n.hands ≡ m.0.hands
    hands = ap (λ (z : SeatView M W). merged_hands m.0.hands z.hands) blank ∙ merged_none m.0.hands

    lanes : n.lanes ≡ m.0.lanes
    lanes = ap (λ (z : SeatView M W). m.0.lanes ++ z.lanes) blank ∙ append-nil m.0.lanes

    boards : n.boards ≡ m.0.boards
    boards = ap (λ (z : SeatView M W). m.0.boards ++ z.boards) blank ∙ append-nil m.0.boards

    is : u.0 ≡ informed n
    is = ap (λ (z : Seat M W). z.0) took.after

    later : Later fits w boxes m.0.seen u.0.seen
    later = step_later fits id number left made w boxes m p n u.0.seen boards (first_later fits id number left made w boxes m p) took.news

    list : own number u.0.seen.order ≡ own number m.0.seen.order
    list = took.own 0 (own_part fits id number left made w boxes m p) (ap (λ l. get_elem? l 0) (lanes ∙ p.lanes)) refl

    pub learn_on : IsBoxPass fits id' number left made w boxes u
    learn_on =
        pass_on fits id number left made w boxes m p id' left made u same (ap (λ (z : SeatView M W). z.boards) is ∙ boards)
        (same_lanes fits id number left made w boxes m p u.0 (ap (λ (z : SeatView M W). z.lanes) is ∙ lanes) list)
        (ap (λ (z : Seat M W). z.1) took.after ∙ p.outside) (ap (λ (z : SeatView M W). z.told) is)
        (omega (arith, ap (λ (z : SeatView M W). z.owes) is, ap (λ (z : SeatView M W). z.owes) blank, p.owes))
        (omega (arith, ap (λ (z : SeatView M W). z.budget) is, p.budget))
        (λ q near.
        subst (λ h. IsIdleHand left h)
        (sym (ap (λ (z : SeatView M W). get_or z.hands q (fresh_hand 0)) is ∙ ap (λ l. get_or l q (fresh_hand 0)) hands))
        (p.hands q near))
        (seen_on fits w boxes made m.0.seen u.0.seen p.seen later)

    seen : u.0.seen ≡ both_seen m.0.seen x
    seen = ap (λ (z : SeatView M W). z.seen) is

    pub learned_is : (s : Sight M W) → box_sight id number left made w boxes m.0.seen ≡ s → (a : Account M) → box_account told_id x ≡ a
        → Learned fits a s (box_sight id' number left made w boxes u.0.seen)
    learned_is s see a see_a =
        subst (λ z. Learned fits a z (box_sight id' number left made w boxes u.0.seen)) see
        (subst
        (λ z. Learned fits z (box_sight id number left made w boxes m.0.seen) (box_sight id' number left made w boxes u.0.seen))
        see_a record {
          none = record {
            goes =
                goes fits id number left made w boxes m p id' left made u.0.seen same later
                (seen_on fits w boxes made m.0.seen u.0.seen p.seen
                later).known;
            made = refl;
            own = list;
          };
          calls = refl;
          theirs = took.theirs;
          longer = elim (dec_le (length x.order) (length m.0.seen.order)) [
            | yes d ↦ inl (ap (λ (z : Seen M). z.order) seen ∙ longer_first m.0.seen.order x.order d)
            | no d ↦ inr (ap (λ (z : Seen M). z.order) seen ∙ longer_second m.0.seen.order x.order (lt_of_not-le d))
          ];
          abort = took.aborted;
          either =
              elim (one_abort m.0.seen.aborted x.aborted) [
                | inl e ↦ inl (ap (λ (z : Seen M). z.aborted) seen ∙ e)
                | inr e ↦ inr (ap (λ (z : Seen M). z.aborted) seen ∙ e)
              ];
          close = λ e. ap (λ (z : Seen M). z.knows) seen ∙ or_right m.0.seen.knows x.knows e;
          known = λ e. either_knew m.0.seen.knows x.knows (sym (ap (λ (z : Seen M). z.knows) seen) ∙ e);
        })
