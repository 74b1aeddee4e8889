-- What a completion and an abort of the board with a lock for each mailbox promise.
use Rattle.std.proofs.Common.{◌≡◌, inl, inr, ℕ, ◌-◌, ◌<◌, Bool, true, false, List, [], ◌∷◌, ◌++◌, map, length, Contains, Some}
use Rattle.std.proofs.Common.{refl, sym, ap, ◌∙◌, subst, arith}
use Rattle.std.specs.Prelude.{IsSome, is_some}
use Rattle.atomic_table.specs.Table.{rest}
use Rattle.atomic_table.specs.Seated.{TableId}
use Rattle.ticket_lock.specs.History.{EndsIn}
use Rattle.ticket_lock.specs.Turns.{passes}
use Rattle.ticket_lock.specs.Calls as lock
use Rattle.ticket_lock.specs.Proved.Facts.{EndsIn-same}
use Rattle.post_ledger.specs.declared.event.Event.{Event}
use Rattle.post_ledger.specs.declared.event.Event.TheVariants.{Done}
use Rattle.post_ledger.specs.declared.entry.Entry.TheVariants.{Completed}
use Rattle.post_ledger.specs.History.{takes, dones}
use Rattle.post_ledger.specs.Orders.{own, HasJob}
use Rattle.switchboard.specs.declared.calls.Cause.{Cause}
use Rattle.switchboard.specs.declared.lock_per_box.knowing.Seen.{Seen}
use Rattle.switchboard.specs.Sights.{Sight}
use Rattle.switchboard.specs.Promises.{WasDone, Added, MadeAbort}
use Rattle.switchboard.specs.Knowing.{hand_at, counted_down, made_abort}
use Rattle.switchboard.specs.PerBox.{SeatView, LeavesEvents, TellsOrder, IsInside, Raised, Seat}
use Rattle.switchboard.specs.BoxPasses.{IsIdleHand, box_sight, IsBoxPass}
use Rattle.switchboard.proofs.BoxCalls.{Later, Visit, Outside, outside_now, Within, within_is, own_part, next_later, own_same, may_complete}
use Rattle.switchboard.proofs.BoxCalls.{goes, pass_on, recorded_is, departed_on, departed_recorded, added_is, is_counted_down}
use Rattle.switchboard.proofs.BoxVisits.{lent_is, may_leave, has_left}

module _ {M W : Type 0} (fits : W → ℕ → M → Type 0) (id : TableId) (number left : ℕ) (made : Bool) (w : W) (boxes : ℕ) (m : Seat M W)
    (p : IsBoxPass fits id number left made w boxes m) where
  abbrev before : Sight M W
  before = box_sight id number left made w boxes m.0.seen

  module _ (x : List (Event M)) (v : Seat M W) (inside : IsInside fits number x m v) (job take : ℕ) (same_job : take ≡ job)
      (s : Sight M W) (see : before ≡ s) (has : HasJob s.number job s.seen.order) (k : ℕ) (slot : k ≡ number)
      (lent : List (Event M)) (lies : v.1 ≡ (k, Some lent) ∷ rest v.1) where
    found : lent ≡ x
    found = lent_is fits number x m v inside k slot lent lies

    outside : Outside fits id number left made w boxes m p m
    outside = outside_now fits id number left made w boxes m p

    within : Within fits id number left made w boxes m p m v
    within = within_is fits id number left made w boxes m p number x m v outside inside

    may_done : (take < length (takes x)) × (Contains (dones x) take → ⊥)
    may_done = may_complete fits id number left made w boxes m p x m v inside within job take same_job s see has

    pub may_complete_lent : (take < length (takes lent)) × (Contains (dones lent) take → ⊥)
    may_complete_lent = subst (λ h. (take < length (takes h)) × (Contains (dones h) take → ⊥)) (sym found) may_done

    module _ (y : List (Event M)) (grown_lent : y ≡ lent ++ Done take ∷ []) where
      grown : y ≡ x ++ Done take ∷ []
      grown = grown_lent ∙ ap (λ h. h ++ Done take ∷ []) found

      done_asks : (z : List (Event M)) → EndsIn (hand_at number v.0).seen z → LeavesEvents fits number (passes z y) v.0
      done_asks z ends =
          subst (λ k. LeavesEvents fits number (passes k y) v.0) (EndsIn-same (hand_at number v.0).seen x z inside.found ends)
          (inr (inl (
            own_part fits id number left made w boxes m p,
            Done take,
            within.lanes ∙ p.lanes,
            within.list,
            grown,
            (refl, may_done),
          )))

      pub done_leaves : lock.MayPass (hand_at number) (LeavesEvents fits number) number (v.0, (k, Some y) ∷ rest v.1)
      done_leaves = may_leave fits number x m v inside k slot y done_asks

      module _ (out : Seat M W)
          (passed : lock.Passed (hand_at number) (TellsOrder fits number) number (v.0, (k, Some y) ∷ rest v.1) out)
          (some_of : left ≡ 0 → ⊥) where
        visit : Visit fits number x y m v out
        visit = record { inside = inside; left = has_left fits number x m v inside k slot y out passed }

        -- it has its Done in the count
        pub done_owes : out.0.owes ≡ 1
        done_owes =
            ap (λ (z : SeatView M W). z.owes)
            (recorded_is fits id number left made w boxes m p number x y m v out outside visit (Done take) grown refl).after
            ∙ omega (arith, within.owes, p.owes)

        module _ (u : Seat M W) (counted : u ≡ (counted_down out.0, out.1)) (id' : TableId) (same : id' ≡ id) where
          pub done_on : IsBoxPass fits id' number (left - 1) made w boxes u
          done_on =
              departed_on fits id number left made w boxes m p number x y m v out outside visit
              (departed_recorded fits id number left made w boxes m p number x y m v out outside visit (Done take) grown refl) id' same
              (left - 1) (omega (arith, some_of)) u (is_counted_down out u counted)
              (ap (λ (z : Seat M W). z.0.owes) counted ∙ omega (arith, done_owes))

          pub was_done : WasDone fits job s (box_sight id' number (left - 1) made w boxes u.0.seen)
          was_done =
              let a =
              added_is fits id number left made w boxes m p number x y m v out outside visit (Done take) grown refl id' same some_of in
              let b : Added fits (Completed number job) before (box_sight id' number (left - 1) made w boxes out.0.seen) =
              subst
              (λ k. Added fits (Completed number k) before (box_sight id' number (left - 1) made w boxes out.0.seen)) same_job a in
              let c : Added fits (Completed number job) before (box_sight id' number (left - 1) made w boxes u.0.seen) = subst
              (λ (z : Seen M). Added fits (Completed number job) before (box_sight id' number (left - 1) made w boxes z))
              (sym (ap (λ (z : Seat M W). z.0.seen) counted)) b in
              subst (λ (z : Sight M W). Added fits (Completed z.number job) z (box_sight id' number (left - 1) made w boxes u.0.seen)) see c

  module _ (cause : Cause) (u : Seat M W) (raised : Raised fits record { by = number; cause = cause } m u) (not_made : made ≡ false)
      (id' : TableId) (same : id' ≡ id) where
    is : (u.0 ≡ record m.0 { lanes = map made_abort m.0.lanes; seen = u.0.seen })
    is = ap (λ (z : Seat M W). z.0) raised.after

    later_raised : Later fits w boxes m.0.seen u.0.seen
    later_raised = next_later fits id number left made w boxes m p u.0.seen raised.news

    list_raised : own number u.0.seen.order ≡ own number m.0.seen.order
    list_raised = own_same fits id number left made w boxes m p m.0 u.0.seen.order refl raised.own

    knows_it : IsSome u.0.seen.aborted
    knows_it = ap is_some raised.which.1

    pub abort_on : IsBoxPass fits id' number left true w boxes u
    abort_on = pass_on fits id number left made w boxes m p id' left true u same (ap (λ (z : SeatView M W). z.boards) is)
        (ap (λ (z : SeatView M W). z.lanes) is
        ∙ (ap (map made_abort) p.lanes ∙ ap (λ l. record { number = number; events = l; made = true } ∷ []) (sym list_raised)))
        (ap (λ (z : Seat M W). z.1) raised.after ∙ p.outside) (ap (λ (z : SeatView M W). z.told) is ∙ p.told)
        (ap (λ (z : SeatView M W). z.owes) is ∙ p.owes)
        (omega (arith, ap (λ (z : SeatView M W). z.budget) is, p.budget))
        (λ q near. subst (λ (z : SeatView M W). IsIdleHand left (hand_at q z)) (sym is) (p.hands q near))
        record { sound = later_raised.sound; close = later_raised.close; known = λ _. knows_it }

    pub was_aborted : (s : Sight M W) → before ≡ s
        → MadeAbort fits record { by = s.number; cause = cause } s (box_sight id' number left true w boxes u.0.seen)
    was_aborted s see =
        subst
        (λ (z : Sight M W). MadeAbort fits record { by = z.number; cause = cause } z (box_sight id' number left true w boxes u.0.seen))
        see record {
          goes = goes fits id number left made w boxes m p id' left true u.0.seen same later_raised (λ _. knows_it);
          made = refl;
          calls = refl;
          own = list_raised;
          first = λ _. raised.which;
          again = λ e. absurd (let no_way : true ≡ false = sym e ∙ not_made in cc);
        }
