-- Which jobs a pass has after a call, for callers of a board.
use Rattle.std.proofs.Common.{◌≡◌, ◌≢◌, inl, inr, ℕ, ◌+◌, List, [], ◌∷◌, ◌++◌, Some, length}
use Rattle.std.proofs.Common.{slice_get, Contains, refl, sym, ap, ◌∙◌, subst, arith, length-append}
use Rattle.std.proofs.lemmas.List.{append-nil, length_push, take-append-le}
use Rattle.std.proofs.lemmas.List.Elements.{Contains-push_cases}
use Rattle.std.proofs.lemmas.Option.{slice_get_within}
use Rattle.std.proofs.lemmas.Bool.{cases_eq}
use Rattle.std.proofs.lemmas.Map.Views.{list_any-from_Contains}
use Rattle.std.specs.Cmp.{nat_eq_equiv}
use Rattle.post_ledger.specs.declared.event.Event.{Event}
use Rattle.post_ledger.specs.declared.event.Event.TheVariants as event
use Rattle.post_ledger.specs.declared.entry.Entry.{Entry}
use Rattle.post_ledger.specs.declared.entry.Entry.TheVariants.{Posted, Taken, Completed}
use Rattle.post_ledger.specs.History.{takes, dones, IsLegal, MayFollow}
use Rattle.post_ledger.specs.Orders.{part, own, HasJob}
use Rattle.post_ledger.proofs.Histories.{takes-append, dones-append, at_push_cases}
use Rattle.post_ledger.proofs.Orders.{part-append, part_here, part_else, sizes_of}
use Rattle.atomic_table.specs.Seated.{TableId}
use Rattle.switchboard.specs.Sights.{Sight}
use Rattle.std.proofs.Common.{Ok, Err, MatchResult}
use Rattle.std.specs.Prelude.{Result}
use Rattle.switchboard.specs.declared.calls.PostFault.{PostFault}
use Rattle.switchboard.specs.declared.calls.PostFault.TheVariants as fault
use Rattle.switchboard.specs.declared.calls.Abort.{Abort}
use Rattle.switchboard.specs.declared.calls.Taken as answers
use Rattle.switchboard.specs.declared.calls.Taken.TheVariants as answer
use Rattle.ticket_lock.specs.declared.lane.Spent.{Spent}
use Rattle.switchboard.specs.Promises.{AreFirst, MadeNone, Added, Took, TookOldest, WasPosted, WasRefused, WasDone, MadeAbort}
use Rattle.switchboard.specs.Proved.Entries.{job_stays, takes_own, dones_own}
use Rattle.switchboard.proofs.Settling.{get_front}

module _ {M : Type 0} where
  -- a prefix of a legal history is legal
  pub legal_front : (h : List (Event M)) (e : Event M) → IsLegal (h ++ e ∷ []) → IsLegal h
  legal_front h e legal i x at =
      let short : _ = slice_get_within h i x at in
      subst (λ before. MayFollow before x) (take-append-le i h (e ∷ []) (omega arith)) (legal i x (get_front h (e ∷ []) i x at))

  takes_more : (n : ℕ) (a : List (Entry M)) (e : Entry M)
      → length (takes (part n (a ++ e ∷ []))) ≡ length (takes (part n a)) + length (takes (part n (e ∷ [])))
  takes_more n a e = ap (λ l. length (takes l)) (part-append n a (e ∷ []))
      ∙ (ap length (takes-append (part n a) (part n (e ∷ []))) ∙ length-append (takes (part n a)) (takes (part n (e ∷ []))))

  dones_more : (n : ℕ) (a : List (Entry M)) (e : Entry M) → dones (part n (a ++ e ∷ [])) ≡ dones (part n a) ++ dones (part n (e ∷ []))
  dones_more n a e = ap dones (part-append n a (e ∷ [])) ∙ dones-append (part n a) (part n (e ∷ []))

  -- a Post is not a Done, and neither is a Take
  pub no_done_post : (n to s : ℕ) (m : M) (t : ℕ) → dones (part n (Posted to s m t ∷ [])) ≡ []
  no_done_post n to s m t =
      elim (cases_eq to n) [
        | inl here ↦ ap dones (part_here n (Posted to s m t) [] here)
        | inr else ↦ ap dones (part_else n (Posted to s m t) [] else)
      ]

  pub no_done_take : (n of s : ℕ) (m : M) → dones (part n (Taken of s m ∷ [])) ≡ []
  no_done_take n of s m =
      elim (cases_eq of n) [
        | inl here ↦ ap dones (part_here n (Taken of s m) [] here)
        | inr else ↦ ap dones (part_else n (Taken of s m) [] else)
      ]

  -- a job stays one after one more event of the pass that is not a Done
  more_events : (n j : ℕ) (a b : List (Entry M)) (e : Entry M) → own n b ≡ own n a ++ e ∷ [] → dones (part n (e ∷ [])) ≡ [] → HasJob n j a
      → HasJob n j b
  more_events n j a b e longer none has =
      let list : List (Entry M) = own n a in
      let count = ap length (takes_own n b) ∙ (ap (λ l. length (takes (part n l))) longer ∙ takes_more n list e) in
      let names : dones (part n b) ≡ dones (part n a) = dones_own n b
      ∙ (ap (λ l. dones (part n l)) longer
      ∙ (dones_more n list e ∙ (ap (λ l. dones (part n list) ++ l) none ∙ (append-nil (dones (part n list)) ∙ sym (dones_own n a))))) in
      (omega (arith, count, ap length (takes_own n a), has.0), subst (λ l. Contains l j → ⊥) (sym names) has.1)

module _ {M W : Type 0} (fits : W → ℕ → M → Type 0) where
  -- if the pass made no event it has the jobs that it had
  pub kept_none : (s t : Sight M W) (j : ℕ) → MadeNone fits s t → HasJob s.number j s.seen.order → HasJob t.number j t.seen.order
  kept_none s t j m has =
      subst (λ n. HasJob n j t.seen.order) (sym m.goes.number) (job_stays s.number j s.seen.order t.seen.order (sym m.own) has)

  -- and so it has after an event of its own that is not a Done
  pub kept_added : (s t : Sight M W) (j : ℕ) (e : Entry M) → Added fits e s t → dones (part s.number (e ∷ [])) ≡ []
      → HasJob s.number j s.seen.order → HasJob t.number j t.seen.order
  kept_added s t j e a none has =
      subst (λ n. HasJob n j t.seen.order) (sym a.goes.number) (more_events s.number j s.seen.order t.seen.order e a.own none has)

  -- the job of a message taken is one of the pass
  pub job_new : (s t : Sight M W) (job : ℕ) (m : M) → TookOldest fits job m s t → HasJob t.number job t.seen.order
  job_new s t job m k =
      let n : ℕ = s.number in
      let front : List (Entry M) = k.added.front in
      let e : Entry M = Taken n k.sender m in
      let whole : part n t.seen.order ≡ part n front ++ event.Take k.sender m ∷ [] = ap (part n) k.added.last
      ∙ (part-append n front (e ∷ []) ∙ ap (λ l. part n front ++ l) (part_here n e [] refl)) in
      let legal : IsLegal (part n front) =
      legal_front (part n front) (event.Take k.sender m) (subst IsLegal whole (k.added.goes.sound.lawful.legal n)) in
      let z = sizes_of (part n front) legal in
      let count : length (takes (part n t.seen.order)) ≡ length (takes (part n front)) + 1 = ap (λ l. length (takes l)) whole
      ∙ (ap length (takes-append (part n front) (event.Take k.sender m ∷ [])) ∙ length_push (takes (part n front)) (k.sender, m)) in
      let names : dones (part n t.seen.order) ≡ dones (part n front) = ap dones whole
      ∙ (dones-append (part n front) (event.Take k.sender m ∷ []) ∙ append-nil (dones (part n front))) in
      subst (λ i. HasJob i job t.seen.order) (sym k.added.goes.number) (
        omega (arith, count, k.number),
        (λ there. let early =
            z.earlier job (list_any-from_Contains nat_eq_equiv job (dones (part n front)) (subst (λ l. Contains l job) names there)) in
            omega (arith, early, k.number)),
      )

  -- the job of a message taken is not one that the pass had
  pub job_other : (s t : Sight M W) (job j : ℕ) (m : M) → TookOldest fits job m s t → HasJob s.number j s.seen.order → j ≢ job
  job_other s t job j m k has same =
      let n : ℕ = s.number in
      let rest = k.added.found.0 in
      let front : List (Entry M) = k.added.front in
      let count : length (takes (part n front)) ≡ length (takes (part n s.seen.order)) + length (takes (part n rest)) =
      ap (λ l. length (takes (part n l))) k.added.found.1
      ∙ (ap (λ l. length (takes l)) (part-append n s.seen.order rest)
      ∙ (ap length (takes-append (part n s.seen.order) (part n rest))
      ∙ length-append (takes (part n s.seen.order)) (takes (part n rest)))) in
      omega (arith, count, k.number, has.0, same)

  -- a take leaves the jobs
  pub take_keeps : (s t : Sight M W) (job j : ℕ) (m : M) → TookOldest fits job m s t → HasJob s.number j s.seen.order
      → HasJob t.number j t.seen.order
  take_keeps s t job j m k has = kept_added s t j (Taken s.number k.sender m) k.added (no_done_take s.number s.number k.sender m) has

  -- a completion leaves every other job
  pub done_keeps : (s t : Sight M W) (job j : ℕ) → WasDone fits job s t → j ≢ job → HasJob s.number j s.seen.order
      → HasJob t.number j t.seen.order
  done_keeps s t job j a other has =
      let n : ℕ = s.number in
      let e : Entry M = Completed n job in
      let list : List (Entry M) = own n s.seen.order in
      let count = ap length (takes_own n t.seen.order) ∙ (ap (λ l. length (takes (part n l))) a.own ∙ takes_more n list e) in
      let names : dones (part n t.seen.order) ≡ dones (part n s.seen.order) ++ job ∷ [] = dones_own n t.seen.order
      ∙ (ap (λ l. dones (part n l)) a.own
      ∙ (dones_more n list e
      ∙ (ap (λ l. dones (part n list) ++ dones l) (part_here n e [] refl)
      ∙ ap (λ l. l ++ job ∷ []) (sym (dones_own n s.seen.order))))) in
      subst (λ i. HasJob i j t.seen.order) (sym a.goes.number) (
        omega (arith, count, ap length (takes_own n s.seen.order), has.0),
        (λ there.
            elim (Contains-push_cases (dones (part n s.seen.order)) job j (subst (λ l. Contains l j) names there)) [
              | inl old ↦ has.1 old
              | inr same ↦ other (sym same)
            ]),
      )

  -- a post, made or refused, leaves the jobs
  pub post_keeps : (s t : Sight M W) (job to : ℕ) (m : M) (r : Result (Unit {0}) (PostFault M))
      → MatchResult r (λ _. WasPosted fits job to m s t) (λ f. WasRefused fits m f s t) → (j : ℕ) → HasJob s.number j s.seen.order
      → HasJob t.number j t.seen.order
  post_keeps s t job to m (Ok u) p j has = kept_added s t j (Posted to s.number m job) p.0 (no_done_post s.number to s.number m job) has
  post_keeps s t job to m (Err (fault.Spent back)) p j has = subst (λ (z : Sight M W). HasJob z.number j z.seen.order) (sym p.1.1) has
  post_keeps s t job to m (Err (fault.Memory back)) p j has = kept_none s t j p.1.0 has
  post_keeps s t job to m (Err (fault.Aborted back)) p j has = kept_none s t j p.1.0 has

  pub post_same : (s t : Sight M W) (job to : ℕ) (m : M) (r : Result (Unit {0}) (PostFault M))
      → MatchResult r (λ _. WasPosted fits job to m s t) (λ f. WasRefused fits m f s t)
      → (t.board ≡ s.board) × (t.number ≡ s.number) × (t.seen.boxes ≡ s.seen.boxes)
  post_same s t job to m (Ok u) p = (p.0.goes.board, p.0.goes.number, p.0.goes.before.boxes)
  post_same s t job to m (Err (fault.Spent back)) p =
      (ap (λ (z : Sight M W). z.board) p.1.1, ap (λ (z : Sight M W). z.number) p.1.1, ap (λ (z : Sight M W). z.seen.boxes) p.1.1)
  post_same s t job to m (Err (fault.Memory back)) p = (p.1.0.goes.board, p.1.0.goes.number, p.1.0.goes.before.boxes)
  post_same s t job to m (Err (fault.Aborted back)) p = (p.1.0.goes.board, p.1.0.goes.number, p.1.0.goes.before.boxes)

  -- a take, whatever it returns, leaves the jobs
  pub takes_keep : (s t : Sight M W) (r : Result (answers.Taken M) Spent) (j : ℕ) → Took fits r s t
      → HasJob s.number j s.seen.order → HasJob t.number j t.seen.order
  takes_keep s t (Err e) j k has = subst (λ (z : Sight M W). HasJob z.number j z.seen.order) (sym k.1) has
  takes_keep s t (Ok answer.Closed) j k has = kept_none s t j k.0.0 has
  takes_keep s t (Ok answer.Aborted) j k has = kept_none s t j k.0.0 has
  takes_keep s t (Ok answer.Empty) j k has = kept_none s t j k.0.0 has
  takes_keep s t (Ok (answer.Message job m)) j k has = take_keeps s t job j m k has

  -- and so does an abort
  pub abort_keeps : (s t : Sight M W) (a : Abort) (j : ℕ) → MadeAbort fits a s t → HasJob s.number j s.seen.order
      → HasJob t.number j t.seen.order
  abort_keeps s t a j m has = subst (λ n. HasJob n j t.seen.order) (sym m.goes.number)
      (job_stays s.number j s.seen.order t.seen.order (sym m.own) has)

module _ {M W : Type 0} where
  -- the pass with the next number after those with the lower numbers
  pub first_more : (id : TableId) (boxes : ℕ) (passes longer : List (Sight M W)) (p : Sight M W) → AreFirst id boxes passes
      → longer ≡ passes ++ p ∷ [] → p.board ≡ id → p.number ≡ length passes → p.seen.boxes ≡ boxes → AreFirst id boxes longer
  first_more id boxes passes longer p first more board number count j q at =
      elim (at_push_cases passes p q j (subst (λ l. slice_get l j ≡ Some q) more at)) [
        | inl old ↦ first j q old
        | inr last ↦
            subst (λ (z : Sight M W). (z.board ≡ id) × (z.number ≡ j) × (z.seen.boxes ≡ boxes)) last.1 (board, number ∙ sym last.0, count)
      ]
