-- What a turn of the board with a lock for each mailbox promises: a completion and a take, in one visit of the mailbox.
use Rattle.std.proofs.Common.{◌≡◌, inl, inr, ℕ, ◌-◌, ◌<◌, ◌≤◌, Bool, List, [], ◌∷◌, ◌++◌, length, slice_get, set}
use Rattle.std.proofs.Common.{Option, Some, None, Contains, refl, sym, ap, ◌∙◌, subst, arith, set-set}
use Rattle.atomic_table.specs.Table.{rest}
use Rattle.atomic_table.specs.Seated.{TableId}
use Rattle.ticket_lock.specs.History.{EndsIn}
use Rattle.ticket_lock.specs.Turns.{passes}
use Rattle.ticket_lock.specs.Calls as lock
use Rattle.ticket_lock.specs.Proved.Facts.{EndsIn-same}
use Rattle.post_ledger.specs.declared.event.Event.{Event}
use Rattle.post_ledger.specs.declared.event.Event.TheVariants as event
use Rattle.post_ledger.specs.declared.entry.Entry.{Entry}
use Rattle.post_ledger.specs.declared.entry.Entry.TheVariants as entry
use Rattle.post_ledger.specs.History.{posts, takes, dones}
use Rattle.post_ledger.specs.Orders.{own, part, HasJob}
use Rattle.post_ledger.proofs.Orders.{own-append, own_here, part-append, part_here}
use Rattle.switchboard.specs.declared.calls.Taken.TheVariants as answer
use Rattle.switchboard.specs.declared.lock_per_box.knowing.Seen.{Seen}
use Rattle.switchboard.specs.declared.lock_per_box.knowing.Own.{Own}
use Rattle.switchboard.specs.Sights.{Sight}
use Rattle.switchboard.specs.Promises.{Added, WasDone, DidTurn, LeftTurn}
use Rattle.switchboard.specs.Knowing.{with_event, hand_at, counted_down}
use Rattle.switchboard.specs.PerBox.{SeatView, LeavesEvents, Recorded, RecordedTwo, TellsOrder, IsInside, LookedAtWord, Seat}
use Rattle.switchboard.specs.BoxPasses.{box_sight, IsBoxPass}
use Rattle.switchboard.specs.BoxAnswers.{Finished}
use Rattle.switchboard.proofs.Visits.{posted_fits}
use Rattle.switchboard.proofs.BoxWords.{not_flagged}
use Rattle.switchboard.proofs.BoxVisits.{lent_is, may_leave, has_left}
use Rattle.switchboard.proofs.BoxCalls.{Later, Visit, visit_tells, seen_on, own_part, may_complete, step_later, Outside, outside_looked}
use Rattle.switchboard.proofs.BoxCalls.{Within, within_is, own_after, later_after, added_after, Departed, departed_on, recorded_is}
use Rattle.switchboard.proofs.BoxCalls.{departed_recorded, is_counted_down}

module _ {M W : Type 0} (fits : W → ℕ → M → Type 0) where
  -- the calls are used up once the completion has used the last
  pub left_turn : (job : ℕ) (s t : Sight M W) → s.calls < 2 → WasDone fits job s t → LeftTurn fits job None s t
  left_turn job s t few done = (t, done, (omega (arith, few, done.calls), refl))

  module _ (q : ℕ) (x : List (Event M)) (take : ℕ) (lane : Own M) (v o : SeatView M W)
      (rec : Recorded fits q lane (event.Done take) x v o) where
    -- the mailbox after a Done
    part_done : part q o.seen.order ≡ x ++ event.Done take ∷ []
    part_done =
        ap (λ (z : SeatView M W). part q z.seen.order) rec.after
        ∙ (part-append q rec.front (entry.Completed q take ∷ [])
        ∙ (ap (λ l. part q rec.front ++ l) (part_here q (entry.Completed q take) [] refl)
        ∙ ap (λ l. l ++ event.Done take ∷ []) rec.part))

  module _ (id : TableId) (number left : ℕ) (made : Bool) (w : W) (boxes : ℕ) (m : Seat M W)
      (p : IsBoxPass fits id number left made w boxes m) (n : ℕ) (u : Seat M W) (looked : LookedAtWord fits m n u)
      (x : List (Event M)) (v : Seat M W) (inside : IsInside fits number x u v) (job take : ℕ) (same_job : take ≡ job)
      (s : Sight M W) where
    abbrev before : Sight M W
    before = box_sight id number left made w boxes m.0.seen

    module _ (see : before ≡ s) (has : HasJob s.number job s.seen.order) (k : ℕ) (slot : k ≡ number)
        (lent : List (Event M)) (lies : v.1 ≡ (k, Some lent) ∷ rest v.1) where
      found : lent ≡ x
      found = lent_is fits number x u v inside k slot lent lies

      outside : Outside fits id number left made w boxes m p u
      outside = outside_looked fits id number left made w boxes m p n u looked

      within : Within fits id number left made w boxes m p u v
      within = within_is fits id number left made w boxes m p number x u v outside inside

      may_done : (take < length (takes x)) × (Contains (dones x) take → ⊥)
      may_done = may_complete fits id number left made w boxes m p x u v inside within job take same_job s see has

      pub may_finish : (take < length (takes lent)) × (Contains (dones lent) take → ⊥)
      may_finish = subst (λ h. (take < length (takes h)) × (Contains (dones h) take → ⊥)) (sym found) may_done

      module _ (r : Option (ℕ × M)) (y : List (Event M)) (finished_lent : Finished take n r lent y) where
        finished : Finished take n r x y
        finished = subst (λ z. Finished take n r z y) found finished_lent

        turn_asks : (z : List (Event M)) → EndsIn (hand_at number v.0).seen z → LeavesEvents fits number (passes z y) v.0
        turn_asks z ends =
            subst (λ k. LeavesEvents fits number (passes k y) v.0) (EndsIn-same (hand_at number v.0).seen x z inside.found ends)
            (asks r finished)
          where
            alone : y ≡ x ++ event.Done take ∷ [] → LeavesEvents fits number (passes x y) v.0
            alone is =
                inr (inl (
                  own_part fits id number left made w boxes m p,
                  event.Done take,
                  within.lanes ∙ p.lanes,
                  within.list,
                  is,
                  (refl, may_done),
                ))

            asks : (q : Option (ℕ × M)) → Finished take n q x y → LeavesEvents fits number (passes x y) v.0
            asks (Some next) t =
                inr (inr (
                  own_part fits id number left made w boxes m p,
                  take,
                  t.0.0,
                  next.1,
                  within.lanes ∙ p.lanes,
                  within.list,
                  t.0.3,
                  refl,
                  may_done,
                  t.0.1,
                ))
            asks None t = alone t.0

        pub turn_leaves : lock.MayPass (hand_at number) (LeavesEvents fits number) number (v.0, (k, Some y) ∷ rest v.1)
        turn_leaves = may_leave fits number x u v inside k slot y turn_asks

        module _ (out : Seat M W)
            (passed : lock.Passed (hand_at number) (TellsOrder fits number) number (v.0, (k, Some y) ∷ rest v.1) out)
            (two_left : 2 ≤ left) where
          visit : Visit fits number x y u v out
          visit = record { inside = inside; left = has_left fits number x u v inside k slot y out passed }

          some_of : left ≡ 0 → ⊥
          some_of none = omega (arith, two_left, none)

          abbrev mine : Own M
          mine = own_part fits id number left made w boxes m p

          owes_before : v.0.owes ≡ 0
          owes_before = within.owes ∙ (ap (λ (z : Seat M W). z.0.owes) looked.after ∙ p.owes)

          -- it recorded the Done alone
          module _ (alone : y ≡ x ++ event.Done take ∷ []) where
            abbrev rec : Recorded fits number mine (event.Done take) x v.0 out.0
            rec =
                recorded_is fits id number left made w boxes m p number x y u v out outside visit (event.Done take) alone refl

            departed_alone : Departed fits id number left made w boxes m p number v out
            departed_alone =
                departed_recorded fits id number left made w boxes m p number x y u v out outside visit (event.Done take) alone refl

          -- it recorded the Done and the Take
          module _ (sender : ℕ) (message : M) (both : y ≡ (x ++ event.Done take ∷ []) ++ event.Take sender message ∷ []) where
            abbrev two : RecordedTwo fits number mine take sender message x v.0 out.0
            two = (visit_tells fits number x y u v out visit).2 mine take sender message (within.lanes ∙ p.lanes) both

            abbrev first : Recorded fits number mine (event.Done take) x v.0 two.0
            first = two.1

            abbrev second : Recorded fits number (with_event (entry.Completed number take) mine) (event.Take sender message)
                (x ++ event.Done take ∷ []) two.0 out.0
            second = two.2

            later_first : Later fits w boxes m.0.seen two.0.seen
            later_first =
                later_after fits id number left made w boxes m p number x v.0 two.0 within.boards within.later (event.Done take) refl
                first

            later_second : Later fits w boxes m.0.seen out.0.seen
            later_second =
                step_later fits id number left made w boxes m p two.0 out.0.seen
                (ap (λ (z : SeatView M W). z.boards) first.after ∙ within.boards) later_first second.news

            own_first : own number two.0.seen.order ≡ mine.events ++ entry.Completed number take ∷ []
            own_first =
                own_after fits id number left made w boxes m p number x v.0 two.0 within.boards within.later (event.Done take) refl first

            own_second : own number out.0.seen.order
                ≡ (mine.events ++ entry.Completed number take ∷ []) ++ entry.Taken number sender message ∷ []
            own_second =
                let e : Entry M = entry.Taken number sender message in
                ap (λ (z : SeatView M W). own number z.seen.order) second.after
                ∙ (own-append number second.front (e ∷ []) ∙ (λ i. second.own i ++ own_here number e [] refl i))

            departed_both : Departed fits id number left made w boxes m p number v out
            departed_both =
                let a = first.after in
                let b = second.after in
                record {
                  boards = ap (λ (z : SeatView M W). z.boards) b ∙ ap (λ (z : SeatView M W). z.boards) a;
                  hands =
                      ap (λ (z : SeatView M W). z.hands) b
                      ∙ (ap (λ (z : SeatView M W). set z.hands number (hand_at number out.0)) a
                      ∙ set-set v.0.hands number (hand_at number two.0) (hand_at number out.0));
                  lanes =
                      ap (λ (z : SeatView M W). z.lanes) b
                      ∙ ap (λ l. record { number = number; events = l; made = made } ∷ []) (sym own_second);
                  told = ap (λ (z : SeatView M W). z.told) b ∙ ap (λ (z : SeatView M W). z.told) a;
                  budget = ap (λ (z : SeatView M W). z.budget) b ∙ ap (λ (z : SeatView M W). z.budget) a;
                  later = later_second;
                }

          departed : Departed fits id number left made w boxes m p number v out
          departed = of r finished
            where
              of : (q : Option (ℕ × M)) → Finished take n q x y → Departed fits id number left made w boxes m p number v out
              of (Some next) t = departed_both t.0.0 next.1 t.0.3
              of None t = departed_alone t.0

          -- it has its Done in the count
          pub turn_owes : out.0.owes ≡ 1
          turn_owes = of r finished
            where
              of : (q : Option (ℕ × M)) → Finished take n q x y → out.0.owes ≡ 1
              of (Some next) t =
                  let sender = t.0.0 in
                  omega (
                    arith,
                    ap (λ (z : SeatView M W). z.owes) (second sender next.1 t.0.3).after,
                    ap (λ (z : SeatView M W). z.owes) (first sender next.1 t.0.3).after,
                    owes_before,
                  )
              of None t = omega (arith, ap (λ (z : SeatView M W). z.owes) (rec t.0).after, owes_before)

          module _ (z : Seat M W) (counted : z ≡ (counted_down out.0, out.1)) (id' : TableId) (same : id' ≡ id) where
            -- the pass may have any number of calls left that is smaller
            pub turn_on : (calls : ℕ) → calls < left → IsBoxPass fits id' number calls made w boxes z
            turn_on calls fewer =
                departed_on fits id number left made w boxes m p number x y u v out outside visit departed id' same calls fewer z
                (is_counted_down out z counted) (omega (arith, ap (λ (k : Seat M W). k.0.owes) counted, turn_owes))

            abbrev sight_at : ℕ → Seen M → Sight M W
            sight_at calls seen = box_sight id' number calls made w boxes seen

            -- it completed the take of the job,
            was_done : (o : SeatView M W) → Recorded fits number mine (event.Done take) x v.0 o
                → WasDone fits job before (sight_at (left - 1) o.seen)
            was_done o rec =
                subst (λ k. Added fits (entry.Completed number k) before (sight_at (left - 1) o.seen)) same_job
                (added_after fits id number left made w boxes m p number x v.0 o within.boards within.later (event.Done take) refl rec id'
                same some_of)

            -- and took a message
            did : (job' : ℕ) (message : M) → Finished take n (Some (job', message)) x y
                → DidTurn fits job (answer.Message job' message) before (sight_at (left - 1 - 1) out.0.seen)
            did job' message t =
                let sender : ℕ = t.0.0 in
                let middle : SeatView M W = (two sender message t.0.3).0 in
                let a = first sender message t.0.3 in
                let b = second sender message t.0.3 in
                let e : Entry M = entry.Taken number sender message in
                let order : out.0.seen.order ≡ b.front ++ e ∷ [] = ap (λ (z : SeatView M W). z.seen.order) b.after in
                let whole : part number out.0.seen.order ≡ part number b.front ++ event.Take sender message ∷ [] = ap (part number) order
                ∙ (part-append number b.front (e ∷ []) ∙ ap (λ l. part number b.front ++ l) (part_here number e [] refl)) in
                let later_middle = later_first sender message t.0.3 in (
                  sight_at (left - 1) middle.seen,
                  was_done middle a,
                  record {
                    sender = sender;
                    added = record {
                      goes = record {
                        board = refl;
                        number = refl;
                        before = record { world = refl; boxes = refl; order = b.news.begins; aborted = b.news.aborted };
                        sound = departed.later.sound;
                        made = (seen_on fits w boxes made m.0.seen out.0.seen p.seen departed.later).known;
                        knows = b.news.knows;
                        close = departed.later.close;
                      };
                      made = refl;
                      calls = omega (arith, two_left);
                      front = b.front;
                      last = order;
                      found = b.begins;
                      own = own_second sender message t.0.3 ∙ ap (λ l. l ++ e ∷ []) (sym (own_first sender message t.0.3));
                    };
                    oldest = (
                      sender,
                      subst (λ h. slice_get (posts h) (length (takes h)) ≡ Some (sender, message)) (sym b.part) t.0.1,
                      whole,
                    );
                    number = t.0.2 ∙ ap (λ h. length (takes h)) (sym b.part);
                    fit =
                        posted_fits fits w number (length (takes (x ++ event.Done take ∷ []))) sender message middle.seen.order
                        later_middle.sound.fitting
                        (subst (λ h. slice_get (posts h) (length (takes (x ++ event.Done take ∷ []))) ≡ Some (sender, message))
                        (sym (part_done number x take mine v.0 middle a)) t.0.1);
                    alive = ap (λ (z : SeatView M W). z.seen.aborted) b.after
                        ∙ (ap (λ (z : SeatView M W). z.seen.aborted) a.after
                        ∙ (inside.aborted ∙ not_flagged looked.low u.0.seen.aborted (omega (arith, looked.found, t.1))));
                  },
                )

            pub did_turn : (job' : ℕ) (message : M) → r ≡ Some (job', message)
                → DidTurn fits job (answer.Message job' message) s (sight_at (left - 1 - 1) z.0.seen)
            did_turn job' message is =
                let d : DidTurn fits job (answer.Message job' message) before (sight_at (left - 1 - 1) z.0.seen) =
                subst (λ (k : Seen M). DidTurn fits job (answer.Message job' message) before (sight_at (left - 1 - 1) k))
                (sym (ap (λ (k : Seat M W). k.0.seen) counted))
                (did job' message (subst (λ q. Finished take n q x y) is finished)) in
                subst (λ (k : Sight M W). DidTurn fits job (answer.Message job' message) k (sight_at (left - 1 - 1) z.0.seen)) see d

            -- it took none
            pub done_alone : r ≡ None → WasDone fits job s (sight_at (left - 1) z.0.seen)
            done_alone is =
                let d : WasDone fits job before (sight_at (left - 1) z.0.seen) =
                subst (λ (k : Seen M). WasDone fits job before (sight_at (left - 1) k))
                (sym (ap (λ (k : Seat M W). k.0.seen) counted))
                (was_done out.0 (rec (subst (λ q. Finished take n q x y) is finished).0)) in
                subst (λ (k : Sight M W). WasDone fits job k (sight_at (left - 1) z.0.seen)) see d
