-- The results of jobs.
use Rattle.std.specs.Prelude.{◌≡◌, ◌≤◌, ℕ, List, Option, None, Some, length, slice_get}
use Rattle.jobs.specs.declared.no_thread.NoThread.{NoThread}
use Rattle.jobs.specs.declared.jobs.JobPromise.{JobPromise}
use Rattle.jobs.specs.declared.jobs.Begun.{Begun}
use Rattle.jobs.specs.declared.jobs.Begun.TheVariants.{InThread, Without}
use Rattle.jobs.specs.declared.jobs.JobResult.{JobResult}
use Rattle.jobs.specs.declared.jobs.JobResult.TheVariants.{Run, Declined}

-- each job may be run
abbrev pub AllCanRun : {J : Type 0} → (J → Type 0) → List J → Type 0
AllCanRun {J} can_run jobs = (number : ℕ) (job : J) → slice_get jobs number ≡ Some job → can_run job

-- what a job returned
abbrev pub returned_by : {B : Type 0} → JobResult B → B
returned_by (Run b) = b
returned_by (Declined b none) = b

-- the two parts of a pair that a job returned
abbrev pub first_of : {P O : Type 0} → JobResult (P × O) → P
first_of c = (returned_by c).0

abbrev pub second_of : {P O : Type 0} → JobResult (P × O) → O
second_of c = (returned_by c).1

-- This is the result of the job with number n: it was run, and returned what it returns when run; or it was
-- declined, and returned what it returns when declined, with evidence that it gets no thread.
abbrev pub IsResultOf : {B : Type 0} → (B → Type 0) → (B → Type 0) → ℕ → JobResult B → Type 0
IsResultOf runs declines n (Run b) = runs b
IsResultOf runs declines n (Declined b none) = declines b × (none.first ≤ n)

-- the job was declined
abbrev pub IsDeclined : {B : Type 0} → JobResult B → Type 0
IsDeclined (Run b) = ⊥
IsDeclined (Declined b none) = Unit {0}

-- These are the results of the jobs, one for each, in their order; after one that was declined all were
-- declined.
pub record AreResults {J B : Type 0} (runs declines : J → B → Type 0) (jobs : List J) (results : List (JobResult B)) : Type 0 where
  pub all : length results ≡ length jobs
  pub each : (number : ℕ) (job : J) (result : JobResult B) → slice_get jobs number ≡ Some job → slice_get results number ≡ Some result
      → IsResultOf (runs job) (declines job) number result
  pub behind : (number later : ℕ) (result later_result : JobResult B) → number ≤ later → slice_get results number ≡ Some result
      → slice_get results later ≡ Some later_result
      → IsDeclined result → IsDeclined later_result

-- the job with this number returns this
abbrev pub OfJob : {J B : Type 0} → List J → (J → B → Type 0) → ℕ → B → Type 0
OfJob {J} jobs gives n b = (job : J) → slice_get jobs n ≡ Some job → gives job b

-- evidence that a job that was begun has no thread
abbrev pub refusal_of : {B P : Type 0} → Begun B P → Option NoThread
refusal_of (InThread handle) = None
refusal_of (Without b none) = Some none

-- the job that was begun has no thread
abbrev pub HasNoThread : {B P : Type 0} → Begun B P → Type 0
HasNoThread (InThread handle) = ⊥
HasNoThread (Without b none) = Unit {0}

module _ {J B L : Type 0} (declines : J → B → Type 0) (jobs : List J) where
  -- The job with number n was begun: it is in a thread, which promises what this job gives if it is run; or it was
  -- declined, with evidence that it gets no thread.
  abbrev pub WasBegun : ℕ → Begun B (JobPromise J L) → Type 0
  WasBegun n (InThread handle) = handle.promise.number ≡ n
  WasBegun n (Without b none) = OfJob jobs declines n b × (none.first ≤ n)

  -- The jobs were begun, in their order; after one that has no thread none has one.
  pub record AreBegun (begun : List (Begun B (JobPromise J L))) : Type 0 where
    pub all : length begun ≡ length jobs
    pub each : (number : ℕ) (begun_job : Begun B (JobPromise J L)) → slice_get begun number ≡ Some begun_job → WasBegun number begun_job
    pub behind : (number later : ℕ) (begun_job later_job : Begun B (JobPromise J L)) → number ≤ later
        → slice_get begun number ≡ Some begun_job → slice_get begun later ≡ Some later_job
        → HasNoThread begun_job → HasNoThread later_job
