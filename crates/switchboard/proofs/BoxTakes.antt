-- What a take of the board with a lock for each mailbox promises.
use Rattle.std.proofs.Common.{◌≡◌, inl, inr, ℕ, ◌+◌, ◌-◌, ◌^◌, ◌%◌, ◌<◌, ◌≤◌, Bool, false, List, [], ◌∷◌, ◌++◌, length, slice_get}
use Rattle.std.proofs.Common.{Some, None, Ok, refl, sym, ap, ◌∙◌, subst, arith, Option, eq-eqb, ne_eqb}
use Rattle.atomic_table.specs.Table.{rest}
use Rattle.atomic_table.specs.Seated.{TableId}
use Rattle.ticket_lock.specs.History.{EndsIn}
use Rattle.ticket_lock.specs.Turns.{passes}
use Rattle.ticket_lock.specs.Calls as lock
use Rattle.ticket_lock.specs.Proved.Facts.{EndsIn-same}
use Rattle.post_ledger.specs.declared.event.Event.{Event}
use Rattle.post_ledger.specs.declared.event.Event.TheVariants as event
use Rattle.post_ledger.specs.declared.entry.Entry.TheVariants as entry
use Rattle.post_ledger.specs.History.{posts, takes}
use Rattle.post_ledger.specs.Orders.{part}
use Rattle.post_ledger.proofs.Orders.{part-append, part_here}
use Rattle.switchboard.specs.declared.calls.Abort.{Abort}
use Rattle.switchboard.specs.declared.calls.Taken.TheVariants as answer
use Rattle.switchboard.specs.declared.lock_per_box.knowing.Seen.{Seen}
use Rattle.switchboard.specs.Sights.{Sight}
use Rattle.switchboard.specs.Promises.{Looked, Took}
use Rattle.switchboard.specs.Knowing.{hand_at}
use Rattle.switchboard.specs.PerBox.{SeatView, flag, LeavesEvents, Recorded, TellsOrder, IsInside, LookedAtWord, Seat}
use Rattle.switchboard.specs.BoxPasses.{box_sight, IsBoxPass}
use Rattle.switchboard.specs.BoxAnswers.{TookOut}
use Rattle.switchboard.proofs.Visits.{posted_fits}
use Rattle.switchboard.proofs.BoxWords.{not_flagged, flagged}
use Rattle.switchboard.proofs.BoxVisits.{lent_is, may_leave, has_left}
use Rattle.switchboard.proofs.BoxCalls.{Visit, Outside, outside_looked, stays_on, stays_looked, Within, within_is, own_part, departed_on}
use Rattle.switchboard.proofs.BoxCalls.{departed_same, same_seen, same_owes, same_looked, recorded_is, departed_recorded, added_is}

-- no post is outstanding if the low bits are 0
pub low_zero : (low n : ℕ) (a : Option Abort) → low < 2 ^ 63 → n ≡ low + flag a → n % 2 ^ 63 ≡ 0 → low ≡ 0
low_zero low n None small is zero = omega arith
low_zero low n (Some a) small is zero = omega arith

low_some : (low n : ℕ) (a : Option Abort) → n ≡ low + flag a → (n % 2 ^ 63 ≡ 0 → ⊥) → low ≡ 0 → ⊥
low_some low n None is some_of zero = some_of (omega arith)
low_some low n (Some a) is some_of zero = some_of (omega arith)

module _ {M W : Type 0} (fits : W → ℕ → M → Type 0) (id : TableId) (number left : ℕ) (made : Bool) (w : W) (boxes : ℕ) (m : Seat M W)
    (p : IsBoxPass fits id number left made w boxes m) (some_of : left ≡ 0 → ⊥)
    (n : ℕ) (u : Seat M W) (looked : LookedAtWord fits m n u) where
  abbrev before : Sight M W
  before = box_sight id number left made w boxes m.0.seen

  outside : Outside fits id number left made w boxes m p u
  outside = outside_looked fits id number left made w boxes m p n u looked

  owes : u.0.owes ≡ 0
  owes = ap (λ (z : Seat M W). z.0.owes) looked.after ∙ p.owes

  pub looked_on : (id' : TableId) → id' ≡ id → IsBoxPass fits id' number (left - 1) made w boxes u
  looked_on id' same = stays_on fits id number left made w boxes m p u outside u refl id' same some_of owes

  only_looked : (id' : TableId) → id' ≡ id → Looked fits before (box_sight id' number (left - 1) made w boxes u.0.seen)
  only_looked id' same = stays_looked fits id number left made w boxes m p u outside u refl id' same some_of

  pub says_closed : (id' : TableId) → id' ≡ id → n % 2 ^ 63 ≡ 0 → (s : Sight M W) → before ≡ s
      → Took fits (Ok answer.Closed) s (box_sight id' number (left - 1) made w boxes u.0.seen)
  says_closed id' same zero s see =
      subst (λ z. Took fits (Ok answer.Closed) z (box_sight id' number (left - 1) made w boxes u.0.seen)) see
      (only_looked id' same, looked.knows ∙ eq-eqb looked.low 0 (low_zero looked.low n u.0.seen.aborted looked.small looked.found zero))

  open_still : (n % 2 ^ 63 ≡ 0 → ⊥) → u.0.seen.knows ≡ false
  open_still more = looked.knows ∙ ne_eqb looked.low 0 (low_some looked.low n u.0.seen.aborted looked.found more)

  pub says_aborted : (id' : TableId) → id' ≡ id → (n % 2 ^ 63 ≡ 0 → ⊥) → 2 ^ 63 ≤ n → (s : Sight M W) → before ≡ s
      → Took fits (Ok answer.Aborted) s (box_sight id' number (left - 1) made w boxes u.0.seen)
  says_aborted id' same more large s see =
      subst (λ z. Took fits (Ok answer.Aborted) z (box_sight id' number (left - 1) made w boxes u.0.seen)) see (
        only_looked id' same,
        open_still more,
        flagged looked.low u.0.seen.aborted looked.small (omega (arith, looked.found)),
      )

  module _ (more : n % 2 ^ 63 ≡ 0 → ⊥) (clear : n < 2 ^ 63) (x : List (Event M)) (v : Seat M W) (inside : IsInside fits number x u v) where
    within : Within fits id number left made w boxes m p u v
    within = within_is fits id number left made w boxes m p number x u v outside inside

    alive : v.0.seen.aborted ≡ None
    alive = inside.aborted ∙ not_flagged looked.low u.0.seen.aborted (omega (arith, looked.found))

    -- it took out of the mailbox that it was lent, and leaves that one
    module _ (k : ℕ) (slot : k ≡ number) (lent : List (Event M)) (lies : v.1 ≡ (k, Some lent) ∷ rest v.1) (r : Option (ℕ × M))
        (y : List (Event M)) (took_lent : TookOut r lent y) where
      took : TookOut r x y
      took = subst (λ z. TookOut r z y) (lent_is fits number x u v inside k slot lent lies) took_lent

      take_asks : (z : List (Event M)) → EndsIn (hand_at number v.0).seen z → LeavesEvents fits number (passes z y) v.0
      take_asks z ends =
          subst (λ k. LeavesEvents fits number (passes k y) v.0) (EndsIn-same (hand_at number v.0).seen x z inside.found ends)
          (asks r took)
        where
          asks : (q : Option (ℕ × M)) → TookOut q x y → LeavesEvents fits number (passes x y) v.0
          asks (Some next) t =
              inr (inl (
                own_part fits id number left made w boxes m p,
                event.Take t.0 next.1,
                within.lanes ∙ p.lanes,
                within.list,
                t.3,
                (refl, t.1),
              ))
          asks None t = inl t.0

      pub take_leaves : lock.MayPass (hand_at number) (LeavesEvents fits number) number (v.0, (k, Some y) ∷ rest v.1)
      take_leaves = may_leave fits number x u v inside k slot y take_asks

      module _ (out : Seat M W)
          (passed : lock.Passed (hand_at number) (TellsOrder fits number) number (v.0, (k, Some y) ∷ rest v.1) out) where
        visit : Visit fits number x y u v out
        visit = record { inside = inside; left = has_left fits number x u v inside k slot y out passed }

        -- it recorded the take of a message
        abbrev rec : (sender : ℕ) (message : M) → y ≡ x ++ event.Take sender message ∷ []
            → Recorded fits number (own_part fits id number left made w boxes m p) (event.Take sender message) x v.0 out.0
        rec sender message grown =
            recorded_is fits id number left made w boxes m p number x y u v out outside visit (event.Take sender message) grown refl

        pub takes_on : (id' : TableId) → id' ≡ id → IsBoxPass fits id' number (left - 1) made w boxes out
        takes_on id' same = on r took
          where
            on : (q : Option (ℕ × M)) → TookOut q x y → IsBoxPass fits id' number (left - 1) made w boxes out
            on (Some next) t =
                departed_on fits id number left made w boxes m p number x y u v out outside visit
                (departed_recorded fits id number left made w boxes m p number x y u v out outside visit (event.Take t.0 next.1) t.3 refl)
                id' same (left - 1) (omega (arith, some_of)) out refl
                (ap (λ (z : SeatView M W). z.owes) (rec t.0 next.1 t.3).after ∙ (within.owes ∙ owes))
            on None t =
                departed_on fits id number left made w boxes m p number x y u v out outside visit
                (departed_same fits id number left made w boxes m p number x y u v out outside visit t.0)
                id' same (left - 1) (omega (arith, some_of)) out refl
                (same_owes fits id number left made w boxes m p number x y u v out outside visit t.0 ∙ owes)

        -- it says which message it took
        pub took_one : (id' : TableId) → id' ≡ id → (s : Sight M W) → before ≡ s → (job : ℕ) (message : M) → r ≡ Some (job, message)
            → Took fits (Ok (answer.Message job message)) s (box_sight id' number (left - 1) made w boxes out.0.seen)
        took_one id' same s see job message is =
            let t : TookOut (Some (job, message)) x y = subst (λ q. TookOut q x y) is took in
            let e : Event M = event.Take t.0 message in
            let c = rec t.0 message t.3 in
            let order = ap (λ (z : SeatView M W). z.seen.order) c.after in
            let whole : part number out.0.seen.order ≡ part number c.front ++ e ∷ [] = ap (part number) order
            ∙ (part-append number c.front (entry.Taken number t.0 message ∷ [])
            ∙ ap (λ l. part number c.front ++ l) (part_here number (entry.Taken number t.0 message) [] refl)) in
            subst (λ z. Took fits (Ok (answer.Message job message)) z (box_sight id' number (left - 1) made w boxes out.0.seen)) see
            record {
              sender = t.0;
              added = added_is fits id number left made w boxes m p number x y u v out outside visit e t.3 refl id' same some_of;
              oldest = (t.0, subst (λ h. slice_get (posts h) (length (takes h)) ≡ Some (t.0, message)) (sym c.part) t.1, whole);
              number = t.2 ∙ ap (λ h. length (takes h)) (sym c.part);
              fit =
                  posted_fits fits w number (length (takes x)) t.0 message v.0.seen.order within.later.sound.fitting
                  (subst (λ h. slice_get (posts h) (length (takes x)) ≡ Some (t.0, message)) (sym inside.part) t.1);
              alive = ap (λ (z : SeatView M W). z.seen.aborted) c.after ∙ alive;
            }

        -- or that there was none
        pub took_none : (id' : TableId) → id' ≡ id → (s : Sight M W) → before ≡ s → r ≡ None
            → Took fits (Ok answer.Empty) s (box_sight id' number (left - 1) made w boxes out.0.seen)
        took_none id' same s see is =
            let t : TookOut None x y = subst (λ q. TookOut q x y) is took in
            let seen = same_seen fits id number left made w boxes m p number x y u v out outside visit t.0 in
            subst (λ z. Took fits (Ok answer.Empty) z (box_sight id' number (left - 1) made w boxes out.0.seen)) see (
              same_looked fits id number left made w boxes m p number x y u v out outside visit t.0 id' same some_of,
              ap (λ (z : Seen M). z.knows) seen ∙ (inside.knows ∙ open_still more),
              ap (λ (z : Seen M). z.aborted) seen ∙ alive,
              subst (λ h. length (posts h) ≡ length (takes h))
                  (sym (ap (λ (z : Seen M). part number z.order) seen ∙ inside.part)) t.1,
            )
