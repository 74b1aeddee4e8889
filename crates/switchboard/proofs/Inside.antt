-- What a call of the board knows once its pass is inside, and what it does there, call by call.
use Rattle.std.proofs.Common.{◌≡◌, ℕ, ◌<◌, Bool, true, false, None, Ok, refl, sym, ap, ◌∙◌, subst, arith, IfErr, OnOk}
use Rattle.std.specs.Prelude.{Result}
use Rattle.ticket_lock.specs.Lanes.{Standing, Held}
use Rattle.ticket_lock.specs.Promises.{EnteredLock, Left}
use Rattle.post_ledger.specs.declared.entry.Entry.TheVariants.{Posted, Completed}
use Rattle.post_ledger.specs.Orders.{HasJob}
use Rattle.switchboard.specs.declared.calls.Abort.{Abort}
use Rattle.switchboard.specs.declared.calls.Cause.{Cause}
use Rattle.switchboard.specs.declared.calls.PostFault.{PostFault}
use Rattle.switchboard.specs.declared.calls.Taken.{Taken}
use Rattle.switchboard.specs.Sights.{BoardState, Sight, abort_of}
use Rattle.switchboard.specs.Books.{with_new_event, TakeAnswers, RefusesPost}
use Rattle.switchboard.specs.Passes.{calls_of, share, sight_of, Comes, IsPass}
use Rattle.switchboard.specs.Promises.{Took, Added, MadeAbort}
use Rattle.switchboard.specs.Proved.Entries.{Allowed}
use Rattle.switchboard.proofs.Visits.{Kept, Visit, Found, found_here, shows, showing, step_keeps, adds, aborts, take_step, post_step}
use Rattle.switchboard.proofs.Visits.{job_found, job_allowed, post_allowed, some_calls, after_shows, moved, pass_stays, take_still, took_is}
use Rattle.switchboard.proofs.Visits.{added_is, post_still, posted_is, PostAnswer, abort_pass, aborted_when, visit_is}

module _ {M W : Type 0} (fits : W → ℕ → M → Type 0) where
  -- The pass shows itself as s and has the number n; it is inside, finds x and is lent it as v.
  pub record Inside (a entered : Standing (BoardState M W)) (w : W) (boxes : ℕ) (kept : Bool) (p : IsPass fits a w boxes kept)
      (x v : BoardState M W) (s : Sight M W) (n : ℕ) : Type 0 where
    pub found : Found fits a.number p.last x
    pub see : showing fits a kept p.last ≡ s
    pub number : n ≡ a.number
    pub lent : v ≡ x
    pub near : a.number < x.boxes
    pub visits : (b : Standing (BoardState M W)) (y : BoardState M W) → Left y entered b → Visit fits a b x y

  pub inside : {guard : Held (BoardState M W)} {a m : Standing (BoardState M W)} {w : W} {boxes : ℕ} {kept : Bool} {v : BoardState M W}
      {s : Sight M W} {n : ℕ} → (p : IsPass fits a w boxes kept) → EnteredLock (Comes fits) share guard a m
      → sight_of a w boxes kept ≡ s → n ≡ s.number → v ≡ guard.value → Inside a m w boxes kept p guard.value v s n
  inside {guard} {a} {m} {w} {boxes} {kept} p e view number lent =
      let f = found_here fits guard a m w boxes kept p e in
      let see = sym (shows fits a w boxes kept p) ∙ view in
      record {
        found = f;
        see = see;
        number = number ∙ sym (ap (λ s. s.number) see);
        lent = lent;
        near =
            omega (arith, f.before.boxes, p.same_boxes, p.number);
        visits = λ b y. visit_is fits guard a m b y e;
      }

  module _ {a entered : Standing (BoardState M W)} {w : W} {boxes : ℕ} {kept : Bool} {p : IsPass fits a w boxes kept}
      {x v : BoardState M W} {s : Sight M W} {n : ℕ} (h : Inside a entered w boxes kept p x v s n) where
    -- What is said of the number and the state that the call names holds for the lane's number and the state found,
    -- and back.
    pub to_lane : (R : ℕ → BoardState M W → Type 0) → R n v → R a.number x
    to_lane R r = subst (λ k. R k x) h.number (subst (λ z. R n z) h.lent r)

    pub to_call : (R : ℕ → BoardState M W → Type 0) → R a.number x → R n v
    to_call R r = subst (λ k. R k v) (sym h.number) (subst (λ z. R a.number z) (sym h.lent) r)

    -- The pass's job is one of what it finds.
    pub job_inside : {job : ℕ} → HasJob s.number job s.seen.order → HasJob a.number job x.order
    job_inside {job} has = job_found fits a.number job p.last x s a kept h.found h.see refl has

    -- what the pass shows of the board is what it finds
    pub boxes_inside : x.boxes ≡ s.seen.boxes
    boxes_inside = h.found.before.boxes ∙ ap (λ z. z.seen.boxes) h.see

    pub world_inside : x.world ≡ s.seen.world
    world_inside = h.found.before.world ∙ ap (λ z. z.seen.world) h.see

    -- It takes.
    pub taking : (answer : Taken M) {y : BoardState M W} → TakeAnswers a.number answer x y → Kept fits a.number x y
    taking answer {y} is = step_keeps fits a.number x y h.found.sound (take_step fits a.number answer x y h.near is)

    -- It completes a job of its own.
    pub completing : {job : ℕ} {y : BoardState M W} → HasJob a.number job x.order →
        y ≡ with_new_event (Completed a.number job) x → Kept fits a.number x y
    completing {job} {y} has is = step_keeps fits a.number x y h.found.sound
        (adds (Completed a.number job) is refl (job_allowed fits a.number job x h.found.sound has))

    -- It aborts.
    pub aborting : (q : Abort) {y : BoardState M W} → q.by ≡ a.number → y ≡ record x { aborted = abort_of x.aborted q }
        → Kept fits a.number x y
    aborting q {y} by is = step_keeps fits a.number x y h.found.sound (aborts q is by (subst (λ k. k < x.boxes) (sym by) h.near))

    -- It may post under a job of its own what fits, and posts it or is refused.
    pub allowing : {to job : ℕ} {m : M} → HasJob a.number job x.order → to < s.seen.boxes → fits s.seen.world to m →
        Allowed fits (Posted to a.number m job) x
    allowing {to} {job} {m} has near fit =
        post_allowed fits a.number job to m x (omega (arith, near, boxes_inside)) has (subst (λ z. fits z to m) (sym world_inside) fit)

    -- It posts the message to a mailbox under the job, and leaves y; or it is refused.
    pub record Posting (to job : ℕ) (m : M) (answer : Result (Unit {0}) (PostFault M)) (y : BoardState M W) : Type 0 where
      pub may : Allowed fits (Posted to a.number m job) x
      pub ok : OnOk answer ((x.aborted ≡ None) × (y ≡ with_new_event (Posted to a.number m job) x))
      pub err : IfErr answer (λ f. RefusesPost m f x y)
      pub keeps : Kept fits a.number x y

    pub posting : (to job : ℕ) (m : M) (answer : Result (Unit {0}) (PostFault M)) (y : BoardState M W) →
        HasJob s.number job s.seen.order → (to < s.seen.boxes) × fits s.seen.world to m
        → OnOk answer ((v.aborted ≡ None) × (y ≡ with_new_event (Posted to n m job) v)) →
        IfErr answer (λ f. RefusesPost m f v y) → Posting to job m answer y
    posting to job m answer y has may_be ok err =
        let may = allowing (job_inside has) may_be.0 may_be.1 in
        let ok_here = to_lane (λ k z. OnOk answer ((z.aborted ≡ None) × (y ≡ with_new_event (Posted to k m job) z))) ok in
        let err_here = to_lane (λ k z. IfErr answer (λ f. RefusesPost m f z y)) err in record {
          may = may;
          ok = ok_here;
          err = err_here;
          keeps = step_keeps fits a.number x y h.found.sound
              (post_step fits a.number (Posted to a.number m job) m answer x y refl may ok_here err_here);
        }

    -- The pass had a call left.
    pub had_calls : {r : ℕ} → r ≡ s.calls → (r ≡ 0 → ⊥) → 0 < calls_of kept a.left
    had_calls {r} is some_of = some_calls fits r a kept p.last s h.see is some_of

    -- It left y and is outside: what it shows then.
    pub shown_after : {b : Standing (BoardState M W)} {y : BoardState M W} (kept' : Bool) → Visit fits a b x y →
        Kept fits a.number x y → sight_of b w boxes kept' ≡ showing fits b kept' y
    shown_after {b} {y} kept' visit keeps = after_shows fits a b x y w boxes kept kept' p visit keeps

    -- So what holds for what it showed and shows then holds for its sights.
    pub seen_after : {b : Standing (BoardState M W)} {y : BoardState M W} (kept' : Bool) (R : Sight M W → Sight M W → Type 0) →
        Visit fits a b x y → Kept fits a.number x y → R (showing fits a kept p.last) (showing fits b kept' y) →
        R s (sight_of b w boxes kept')
    seen_after {b} {y} kept' R visit keeps =
        moved R (showing fits a kept p.last) s (showing fits b kept' y) (sight_of b w boxes kept') h.see
        (sym (shown_after kept' visit keeps))

    -- It was inside once, and left y.
    module _ {b : Standing (BoardState M W)} {y : BoardState M W} (left : Left y entered b) where
      visit : Visit fits a b x y
      visit = h.visits b y left

      -- So, if a call was left, it is a pass still, and shows that it took,
      pub takes_on : (answer : Taken M) → TakeAnswers n answer v y → {r : ℕ} → r ≡ s.calls → (r ≡ 0 → ⊥) →
          IsPass fits b w boxes kept
      takes_on answer answers is some_of =
          let here = to_lane (λ k z. TakeAnswers k answer z y) answers in
          pass_stays fits a b x y w boxes kept p visit (taking answer here) (take_still fits a.number answer x y here)
          (had_calls is some_of)

      pub shows_taken : (answer : Taken M) → TakeAnswers n answer v y → {r : ℕ} → r ≡ s.calls → (r ≡ 0 → ⊥) →
          Took fits (Ok answer) s (sight_of b w boxes kept)
      shows_taken answer answers is some_of =
          let here = to_lane (λ k z. TakeAnswers k answer z y) answers in
          seen_after kept (Took fits (Ok answer)) visit (taking answer here)
          (took_is fits answer a b x y w boxes kept p visit h.near here (had_calls is some_of))

      -- or that it completed a job of its own,
      pub completes_on : {job r : ℕ} → HasJob s.number job s.seen.order → y ≡ with_new_event (Completed n job) v → r ≡ s.calls →
          (r ≡ 0 → ⊥) → IsPass fits b w boxes kept
      completes_on {job} has done is some_of =
          let here = to_lane (λ k z. y ≡ with_new_event (Completed k job) z) done in
          pass_stays fits a b x y w boxes kept p visit (completing (job_inside has) here) (ap (λ z. z.aborted) here)
          (had_calls is some_of)

      pub shows_completed : {job r : ℕ} → HasJob s.number job s.seen.order → y ≡ with_new_event (Completed n job) v →
          r ≡ s.calls → (r ≡ 0 → ⊥) → Added fits (Completed s.number job) s (sight_of b w boxes kept)
      shows_completed {job} has done is some_of =
          let here = to_lane (λ k z. y ≡ with_new_event (Completed k job) z) done in
          let own = job_inside has in
          seen_after kept (λ q t. Added fits (Completed q.number job) q t) visit (completing own here)
          (added_is fits a b x y (Completed a.number job) w boxes kept p visit here refl
          (job_allowed fits a.number job x h.found.sound own) (had_calls is some_of))

      -- or that it posted, or was refused.
      pub posts_on : {to job : ℕ} {m : M} {answer : Result (Unit {0}) (PostFault M)} {r : ℕ} → Posting to job m answer y →
          r ≡ s.calls → (r ≡ 0 → ⊥) → IsPass fits b w boxes kept
      posts_on {to} {job} {m} {answer} posts is some_of =
          pass_stays fits a b x y w boxes kept p visit posts.keeps
          (post_still fits (Posted to a.number m job) m answer x y posts.ok posts.err) (had_calls is some_of)

      pub shows_posted : {to job : ℕ} {m : M} {answer : Result (Unit {0}) (PostFault M)} {r : ℕ} → Posting to job m answer y →
          r ≡ s.calls → (r ≡ 0 → ⊥) → PostAnswer fits job to m s (sight_of b w boxes kept) answer
      shows_posted {to} {job} {m} {answer} posts is some_of =
          seen_after kept (λ q t. PostAnswer fits job to m q t answer) visit posts.keeps
          (posted_is fits job to m answer a b x y w boxes kept p visit posts.may posts.ok posts.err (had_calls is some_of))

      -- If it aborted, it has made its abort.
      module _ (cause : Cause) (made : y ≡ record v { aborted = abort_of v.aborted (record { by = n; cause = cause }) }) where
        abbrev own_abort : Abort
        own_abort = record { by = a.number; cause = cause }

        aborted_here : y ≡ record x { aborted = abort_of x.aborted own_abort }
        aborted_here = to_lane (λ k z. y ≡ record z { aborted = abort_of z.aborted (record { by = k; cause = cause }) }) made

        pub aborts_on : IsPass fits b w boxes false
        aborts_on = abort_pass fits own_abort a b x y w boxes kept p visit (aborting own_abort refl aborted_here) aborted_here

        pub shows_aborted : kept ≡ true → MadeAbort fits (record { by = s.number; cause = cause }) s (sight_of b w boxes false)
        shows_aborted first =
            let keeps = aborting own_abort refl aborted_here in
            seen_after false (λ q t. MadeAbort fits (record { by = q.number; cause = cause }) q t) visit keeps
            (aborted_when fits own_abort a b x y w boxes kept p first refl visit keeps aborted_here)
