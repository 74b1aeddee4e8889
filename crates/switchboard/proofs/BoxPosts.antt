-- What a post of the board with a lock for each mailbox promises.
use Rattle.std.proofs.Common.{◌≡◌, inl, inr, ℕ, ◌-◌, ◌^◌, ◌<◌, ◌≤◌, Bool, List, [], ◌∷◌, ◌++◌}
use Rattle.std.proofs.Common.{None, Some, refl, sym, ap, ◌∙◌, subst, arith}
use Rattle.std.specs.Prelude.{is_some}
use lib.ListN.{get_elem?}
use Rattle.atomic_table.specs.Table.{rest}
use Rattle.atomic_table.specs.Seated.{TableId}
use Rattle.ticket_lock.specs.History.{EndsIn}
use Rattle.ticket_lock.specs.Turns.{passes}
use Rattle.ticket_lock.specs.Calls as lock
use Rattle.ticket_lock.specs.Proved.Facts.{EndsIn-same}
use Rattle.post_ledger.specs.declared.event.Event.{Event}
use Rattle.post_ledger.specs.declared.event.Event.TheVariants.{Post}
use Rattle.post_ledger.specs.declared.entry.Entry.TheVariants.{Posted}
use Rattle.post_ledger.specs.Orders.{HasJob}
use Rattle.switchboard.specs.declared.calls.PostFault.TheVariants as fault
use Rattle.switchboard.specs.declared.lock_per_box.knowing.Seen.{Seen}
use Rattle.switchboard.specs.Sights.{Sight}
use Rattle.switchboard.specs.Promises.{Added, WasPosted, WasRefused}
use Rattle.switchboard.specs.Knowing.{hand_at, counted_down}
use Rattle.switchboard.specs.PerBox.{SeatView, LeavesEvents, Recorded, TellsOrder, IsInside, CountedUp, HasOwnJob, Seat}
use Rattle.switchboard.specs.BoxPasses.{box_sight, IsBoxPass}
use Rattle.switchboard.proofs.BoxWords.{not_flagged, flagged}
use Rattle.switchboard.proofs.BoxVisits.{lent_is, may_leave, has_left}
use Rattle.switchboard.proofs.BoxCalls.{Visit, Outside, outside_counted, stays_on, stays_looked, Within, within_is, own_part, still_has}
use Rattle.switchboard.proofs.BoxCalls.{departed_on, departed_same, same_seen, same_owes, same_looked, recorded_is, departed_recorded}
use Rattle.switchboard.proofs.BoxCalls.{added_is, is_counted_down}

module _ {M W : Type 0} (fits : W → ℕ → M → Type 0) (id : TableId) (number left : ℕ) (made : Bool) (w : W) (boxes : ℕ) (m : Seat M W)
    (p : IsBoxPass fits id number left made w boxes m) where
  abbrev before : Sight M W
  before = box_sight id number left made w boxes m.0.seen

  module _ (some_of : left ≡ 0 → ⊥) (job : ℕ) (s : Sight M W) (see : before ≡ s) (has : HasJob s.number job s.seen.order) where
    pub own_job : HasOwnJob m.0 job
    own_job = (
      own_part fits id number left made w boxes m p,
      p.lanes,
      refl,
      still_has fits id number left made w boxes m p job s m.0.seen.order see has refl,
    )

    pub some_budget : 0 < m.0.budget
    some_budget = omega (arith, some_of, p.budget)

    -- it counted up
    module _ (n : ℕ) (u : Seat M W) (counted : CountedUp fits job m n u) where
      outside : Outside fits id number left made w boxes m p u
      outside = outside_counted fits id number left made w boxes m p job n u counted

      pub counted_owes : u.0.owes ≡ 1
      counted_owes = omega (arith, ap (λ (z : Seat M W). z.0.owes) counted.2, ap (λ (z : Seat M W). z.0.owes) counted.1.after, p.owes)

      saw : u.0.seen ≡ counted.0.0.seen
      saw = ap (λ (z : Seat M W). z.0.seen) counted.2

      -- and down again, since the board is aborted
      module _ (message : M) (large : 2 ^ 63 ≤ n) (z : Seat M W) (down : z ≡ (counted_down u.0, u.1)) (id' : TableId) (same : id' ≡ id)
        where
          pub aborted_on : IsBoxPass fits id' number (left - 1) made w boxes z
          aborted_on =
              stays_on fits id number left made w boxes m p u outside z (is_counted_down u z down) id' same some_of
              (omega (arith, ap (λ (k : Seat M W). k.0.owes) down, counted_owes))

          pub was_aborted : WasRefused fits message (fault.Aborted message) s (box_sight id' number (left - 1) made w boxes z.0.seen)
          was_aborted =
              let look = counted.1 in
              subst (λ k. WasRefused fits message (fault.Aborted message) k (box_sight id' number (left - 1) made w boxes z.0.seen)) see (
                refl,
                stays_looked fits id number left made w boxes m p u outside z (is_counted_down u z down) id' same some_of,
                ap (λ (k : Seen M). is_some k.aborted) (ap (λ (k : Seat M W). k.0.seen) down ∙ saw)
                    ∙ flagged look.low counted.0.0.seen.aborted look.small (omega (arith, large, look.found)),
              )

      -- and entered the mailbox of another
      module _ (clear : n < 2 ^ 63) (to : ℕ) (x : List (Event M)) (v : Seat M W) (inside : IsInside fits to x u v)
          (k : ℕ) (slot : k ≡ to) (lent : List (Event M)) (lies : v.1 ≡ (k, Some lent) ∷ rest v.1) where
        within : Within fits id number left made w boxes m p u v
        within = within_is fits id number left made w boxes m p to x u v outside inside

        found : lent ≡ x
        found = lent_is fits to x u v inside k slot lent lies

        alive : v.0.seen.aborted ≡ None
        alive =
            let look = counted.1 in
            inside.aborted
            ∙ (ap (λ (z : Seen M). z.aborted) saw ∙ not_flagged look.low counted.0.0.seen.aborted (omega (arith, clear, look.found)))

        under : v.0.under ≡ job
        under = within.under ∙ ap (λ (z : Seat M W). z.0.under) counted.2

        -- it put the message in
        module _ (message : M) (fit : fits s.seen.world to message) (y : List (Event M)) (put : y ≡ lent ++ Post number message ∷ [])
          where
            grown : y ≡ x ++ Post number message ∷ []
            grown = put ∙ ap (λ h. h ++ Post number message ∷ []) found

            post_asks : (z : List (Event M)) → EndsIn (hand_at to v.0).seen z → LeavesEvents fits to (passes z y) v.0
            post_asks z ends =
                let world : s.seen.world ≡ p.base.world.value = sym (ap (λ (z : Sight M W). z.seen.world) see) ∙ sym p.world in
                subst (λ k. LeavesEvents fits to (passes k y) v.0) (EndsIn-same (hand_at to v.0).seen x z inside.found ends)
                (inr (inl (
                  own_part fits id number left made w boxes m p,
                  Post number message,
                  within.lanes ∙ p.lanes,
                  within.list,
                  grown,
                  (
                    refl,
                    subst (λ k. HasJob number k v.0.seen.order) (sym under)
                        (still_has fits id number left made w boxes m p job s v.0.seen.order see has within.list),
                    (p.base, ap (λ l. get_elem? l 0) within.boards ∙ p.is_base, subst (λ z. fits z to message) world fit),
                    omega (arith, within.owes, counted_owes),
                  ),
                )))

            pub post_leaves : lock.MayPass (hand_at to) (LeavesEvents fits to) to (v.0, (k, Some y) ∷ rest v.1)
            post_leaves = may_leave fits to x u v inside k slot y post_asks

            module _ (out : Seat M W) (passed : lock.Passed (hand_at to) (TellsOrder fits to) to (v.0, (k, Some y) ∷ rest v.1) out)
                (id' : TableId) (same : id' ≡ id) where
              visit : Visit fits to x y u v out
              visit = record { inside = inside; left = has_left fits to x u v inside k slot y out passed }

              abbrev rec : Recorded fits to (own_part fits id number left made w boxes m p) (Post number message) x v.0 out.0
              rec = recorded_is fits id number left made w boxes m p to x y u v out outside visit (Post number message) grown refl

              pub post_on : IsBoxPass fits id' number (left - 1) made w boxes out
              post_on =
                  departed_on fits id number left made w boxes m p to x y u v out outside visit
                  (departed_recorded fits id number left made w boxes m p to x y u v out outside visit (Post number message) grown refl)
                  id' same (left - 1) (omega (arith, some_of)) out refl
                  (ap (λ (z : SeatView M W). z.owes) rec.after ∙ omega (arith, within.owes, counted_owes))

              pub was_posted : WasPosted fits job to message s (box_sight id' number (left - 1) made w boxes out.0.seen)
              was_posted =
                  subst (λ z. WasPosted fits job to message z (box_sight id' number (left - 1) made w boxes out.0.seen)) see (
                    subst (λ k. Added fits (Posted to number message k) before (box_sight id' number (left - 1) made w boxes out.0.seen))
                        under
                        (added_is fits id number left made w boxes m p to x y u v out outside visit (Post number message) grown refl id'
                        same some_of),
                    ap (λ (z : SeatView M W). z.seen.aborted) rec.after ∙ alive,
                  )

        -- or left it as it was, and counted down again
        module _ (y : List (Event M)) (put : y ≡ lent) where
          unchanged : y ≡ x
          unchanged = put ∙ found

          pub refused_leaves : lock.MayPass (hand_at to) (LeavesEvents fits to) to (v.0, (k, Some y) ∷ rest v.1)
          refused_leaves =
              may_leave fits to x u v inside k slot y (λ z ends.
              subst (λ k. LeavesEvents fits to (passes k y) v.0) (EndsIn-same (hand_at to v.0).seen x z inside.found ends) (inl unchanged))

          module _ (out : Seat M W) (passed : lock.Passed (hand_at to) (TellsOrder fits to) to (v.0, (k, Some y) ∷ rest v.1) out) where
            visit_none : Visit fits to x y u v out
            visit_none = record { inside = inside; left = has_left fits to x u v inside k slot y out passed }

            pub refused_owes : out.0.owes ≡ 1
            refused_owes =
                same_owes fits id number left made w boxes m p to x y u v out outside visit_none unchanged ∙ counted_owes

            module _ (z : Seat M W) (down : z ≡ (counted_down out.0, out.1)) (id' : TableId) (same : id' ≡ id) where
              pub refused_on : IsBoxPass fits id' number (left - 1) made w boxes z
              refused_on =
                  departed_on fits id number left made w boxes m p to x y u v out outside visit_none
                  (departed_same fits id number left made w boxes m p to x y u v out outside visit_none unchanged) id' same (left - 1)
                  (omega (arith, some_of)) z (is_counted_down out z down)
                  (omega (arith, ap (λ (k : Seat M W). k.0.owes) down, refused_owes))

              pub was_refused : (message back : M) → back ≡ message
                  → WasRefused fits message (fault.Memory back) s (box_sight id' number (left - 1) made w boxes z.0.seen)
              was_refused message back is =
                  let seen : z.0.seen ≡ out.0.seen = ap (λ (k : Seat M W). k.0.seen) down in
                  subst (λ k. WasRefused fits message (fault.Memory back) s (box_sight id' number (left - 1) made w boxes k)) (sym seen)
                  (subst
                  (λ k. WasRefused fits message (fault.Memory back) k (box_sight id' number (left - 1) made w boxes out.0.seen)) see (
                    is,
                    same_looked fits id number left made w boxes m p to x y u v out outside visit_none unchanged id' same some_of,
                    ap (λ (k : Seen M). k.aborted)
                        (same_seen fits id number left made w boxes m p to x y u v out outside visit_none unchanged) ∙ alive,
                  ))
