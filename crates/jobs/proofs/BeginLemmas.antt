-- Jobs that are begun, one after the other, and their results.
use Rattle.std.proofs.Common.{◌≡◌, ℕ, ◌+◌, ◌<◌, ◌≤◌, List, Option, None, Some, slice_get, length, IsSome, IfSome}
use Rattle.std.proofs.Common.{sym, ◌∙◌, subst, arith, rules}
use Rattle.std.proofs.lemmas.Option.{slice_get_within}
use Rattle.std.specs.declared.thread.PromisedHandle.{PromisedHandle}
use Rattle.post_ledger.proofs.Orders.{element_at}
use Rattle.jobs.specs.declared.no_thread.NoThread.{NoThread}
use Rattle.jobs.specs.declared.jobs.JobPromise.{JobPromise}
use Rattle.jobs.specs.declared.jobs.Begun.{Begun}
use Rattle.jobs.specs.declared.jobs.Begun.TheVariants.{InThread, Without}
use Rattle.jobs.specs.declared.jobs.JobResult.{JobResult}
use Rattle.jobs.specs.declared.jobs.JobResult.TheVariants.{Run, Declined}
use Rattle.jobs.specs.Jobs.{refusal_of, AreBegun, IsResultOf, HasNoThread, AreResults, IsDeclined, OfJob, WasBegun}

module _ {J B L : Type 0} where
  -- a job without a thread has the evidence for it
  pub has_shown : (b : Begun B (JobPromise J L)) → HasNoThread b → IsSome (refusal_of b)
  has_shown (InThread handle) has = absurd has
  has_shown (Without b none) has = cc

  -- if one before was refused, the job has no thread
  pub refused_before : (refused : Option NoThread) (b : Begun B (JobPromise J L)) → IfSome refused (λ none. HasNoThread b)
      → IsSome refused → HasNoThread b
  refused_before None b has some = absurd (search (some, rules))
  refused_before (Some none) b has some = has

  module _ (runs declines : J → B → Type 0) (jobs : List J) where
    -- evidence that a job has no thread is evidence for the next one too
    pub shown_near : (n : ℕ) (b : Begun B (JobPromise J L)) → WasBegun declines jobs n b
        → IfSome (refusal_of b) (λ none. none.first ≤ n + 1)
    shown_near n (InThread handle) begun = tt
    shown_near n (Without b none) begun = let near = begun.1 in omega (arith, near)

    -- This is the result of the job with number n, which was begun so.
    pub record Ended (n : ℕ) (b : Begun B (JobPromise J L)) (c : JobResult B) : Type 0 where
      pub result : (j : J) → slice_get jobs n ≡ Some j → IsResultOf (runs j) (declines j) n c
      pub declined : IsDeclined c → HasNoThread b
      pub none : HasNoThread b → IsDeclined c

    pub ended_run : (n : ℕ) (b : Begun B (JobPromise J L)) (c : JobResult B) (handle : PromisedHandle B (JobPromise J L)) (back : B)
        → b ≡ InThread handle → c ≡ Run back → OfJob jobs runs handle.promise.number back → WasBegun declines jobs n b
        → Ended n b c
    ended_run n b c handle back is gives kept begun =
        subst (λ z. Ended n z c) (sym is) (subst (λ z. Ended n (InThread handle) z) (sym gives) (record {
          result = subst (λ k. OfJob jobs runs k back) (subst (WasBegun declines jobs n) is begun) kept;
          declined = λ never. never;
          none = λ never. never;
        }))

    pub ended_none : (n : ℕ) (b : Begun B (JobPromise J L)) (c : JobResult B) (back : B) (none : NoThread) → b ≡ Without back none
        → c ≡ Declined back none → WasBegun declines jobs n b → Ended n b c
    ended_none n b c back none is gives begun =
        let was = subst (WasBegun declines jobs n) is begun in
        subst (λ z. Ended n z c) (sym is) (subst (λ z. Ended n (Without back none) z) (sym gives) (record {
          result = λ j at. (was.0 j at, was.1);
          declined = λ so. so;
          none = λ so. so;
        }))

    -- all jobs that were begun have a result
    pub have_come : (begun : List (Begun B (JobPromise J L))) (results : List (JobResult B)) → AreBegun declines jobs begun
        → length results ≡ length begun
        → ((i : ℕ) (b : Begun B (JobPromise J L)) (c : JobResult B) → slice_get begun i ≡ Some b → slice_get results i ≡ Some c
        → Ended i b c)
        → AreResults runs declines jobs results
    have_come begun results are many ended =
        let at = λ (i : ℕ) (c : JobResult B) (here : slice_get results i ≡ Some c).
        element_at begun i (subst (λ n. i < n) many (slice_get_within results i c here)) in
        record {
          all = many ∙ are.all;
          each = λ i j c job here. let (b, there) = at i c here in (ended i b c there here).result j job;
          behind = λ i k c d near first second is.
              let (b, there) = at i c first in
              let (e, here) = at k d second in
              (ended k e d here second).none (are.behind i k b e near there here ((ended i b c there first).declined is));
        }
