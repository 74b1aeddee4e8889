-- What a pass of a board with a lock for each mailbox knows once it is inside a lock, and after it left.
use Rattle.std.proofs.Common.{◌≡◌, ℕ, List, [], ◌∷◌, ◌++◌, length, Some, refl, ap, ◌∙◌, subst}
use Rattle.std.proofs.Common.{length-append, eq-eqb, set-set}
use Rattle.atomic_table.specs.Table.{rest}
use Rattle.ticket_lock.specs.declared.hand.Hand.{Hand}
use Rattle.ticket_lock.specs.Count.{without}
use Rattle.ticket_lock.specs.History.{EndsIn}
use Rattle.ticket_lock.specs.Turns.{passes}
use Rattle.ticket_lock.specs.Calls as lock
use Rattle.ticket_lock.proofs.Carried.{same_some, passed_left}
use Rattle.post_ledger.specs.declared.event.Event.{Event}
use Rattle.switchboard.specs.declared.lock_per_box.knowing.Seen.{Seen}
use Rattle.switchboard.specs.Knowing.{hand_at, with_hand, with_seen}
use Rattle.switchboard.specs.PerBox.{SeatView, CanDraw, LeavesEvents, TellsOrder, IsInside, News, HasOwn, Seat}

only_ticket : (n : ℕ) (l : List ℕ) → l ≡ [] → without n (l ++ n ∷ []) ≡ []
only_ticket n l none = ap (λ k. without n (k ++ n ∷ [])) none ∙ rw (eq-eqb n n refl) refl

module _ {M W : Type 0} (fits : W → ℕ → M → Type 0) where
  -- what is news is news whatever the hand is
  hand_news : (q : ℕ) (h : Hand (List (Event M))) (v : SeatView M W) (x : Seen M) → News fits (with_hand q h v) x → News fits v x
  hand_news q h v x n = record { begins = n.begins; aborted = n.aborted; knows = n.knows; sound = n.sound; close = n.close }

  -- a seat that was ready, drew and entered
  pub inside_is : (q ticket : ℕ) (x : List (Event M)) (m w : Seat M W) → CanDraw (hand_at q m.0)
      → lock.Came (hand_at q) (TellsOrder fits q) q m ticket x (Some x) w → IsInside fits q x m w
  inside_is q ticket x m w ready came =
      let d = came.0 in
      let drew = came.1 in
      let came_in = came.2 in
      let h : Hand (List (Event M)) = hand_at q m.0 in
      let tell = came_in.2 in
      let d_is : d.0 ≡ with_hand q (hand_at q d.0) m.0 = drew.2 in
      let drawn = drew.1.0 in
      let entered = came_in.1.0 in
      let back : with_hand q (hand_at q w.0) d.0 ≡ with_hand q (hand_at q w.0) m.0 = ap (with_hand q (hand_at q w.0)) d_is
      ∙ ap (λ l. record m.0 { hands = l }) (set-set m.0.hands q (hand_at q d.0) (hand_at q w.0)) in
      let seen : d.0.seen ≡ m.0.seen = ap (λ (z : SeatView M W). z.seen) d_is in
      record {
        lies = came_in.0 ∙ ap (λ l. (q, Some x) ∷ l) drew.0;
        after = tell.0 ∙ ap (with_seen w.0.seen) back;
        inside = (ticket, ap (λ (z : Hand (List (Event M))). z.inside) entered);
        tickets = ap (λ (z : Hand (List (Event M))). z.tickets) entered
            ∙ (ap (λ (z : Hand (List (Event M))). without ticket z.tickets) drawn ∙ only_ticket ticket h.tickets ready.0);
        parts =
            ap (λ (z : Hand (List (Event M))). z.parts)
            (entered
            ∙ (λ i. record {
              seen = (hand_at q w.0).seen;
              tickets = without ticket (drawn i).tickets;
              inside = ticket ∷ [];
              drawn = (drawn i).drawn;
              parts = (drawn i).parts;
            }));
        drawn = ap (λ (z : Hand (List (Event M))). length z.drawn) entered
            ∙ (ap (λ (z : Hand (List (Event M))). length z.drawn) drawn ∙ length-append h.drawn (ticket ∷ []));
        found = came_in.1.4;
        news = hand_news q (hand_at q d.0) m.0 w.0.seen (subst (λ z. News fits z w.0.seen) d_is tell.1);
        own = subst (λ z. HasOwn fits z w.0.seen.order) d_is tell.2;
        aborted = tell.3 ∙ ap (λ (z : Seen M). z.aborted) seen;
        knows = tell.4 ∙ ap (λ (z : Seen M). z.knows) seen;
        part = tell.5;
      }

  -- A seat that is inside works on the mailbox in its slot, which its caller writes as k.
  module _ (q : ℕ) (x : List (Event M)) (b in_it : Seat M W) (inside : IsInside fits q x b in_it) (k : ℕ) (slot : k ≡ q) where
    -- it is lent the history found,
    pub lent_is : (lent : List (Event M)) → in_it.1 ≡ (k, Some lent) ∷ rest in_it.1 → lent ≡ x
    lent_is lent lies = same_some k q lent x in_it.1 (rest in_it.1) b.1 lies inside.lies

    module _ (y : List (Event M)) where
      -- leaves another there, if it may,
      pub may_leave : ((z : List (Event M)) → EndsIn (hand_at q in_it.0).seen z → LeavesEvents fits q (passes z y) in_it.0)
          → lock.MayPass (hand_at q) (LeavesEvents fits q) q (in_it.0, (k, Some y) ∷ rest in_it.1)
      may_leave asks = (y, ap (λ i. (i, Some y) ∷ rest in_it.1) slot, inside.inside, asks)

      -- and has left that one then
      pub has_left : (out : Seat M W) → lock.Passed (hand_at q) (TellsOrder fits q) q (in_it.0, (k, Some y) ∷ rest in_it.1) out
          → lock.Left (hand_at q) (TellsOrder fits q) y in_it out
      has_left out passed =
          passed_left (hand_at q) (TellsOrder fits q) q y (in_it.0, (k, Some y) ∷ rest in_it.1) out (rest in_it.1)
          (ap (λ i. (i, Some y) ∷ rest in_it.1) slot) passed
