-- Which jobs of its pass each call leaves.
use Rattle.std.proofs.Common.{◌≡◌, ◌≢◌, ℕ, Some, None, sym, ap, ◌∙◌, subst}
use Rattle.std.specs.Prelude.{Option}
use Rattle.std.proofs.lemmas.Option.{same_Some}
use Rattle.atomic_table.specs.Seated.{TableId}
use Rattle.post_ledger.specs.Orders.{HasJob}
use Rattle.switchboard.specs.declared.calls.Abort.{Abort}
use Rattle.switchboard.specs.Sights.{Sight}
use Rattle.switchboard.specs.Promises.{WasSpent, GoesOn, MadeNone, TookOldest, WasDone, MadeAbort}
use Rattle.switchboard.proofs.Jobs.{kept_none, job_new, job_other, take_keeps, done_keeps, abort_keeps}
use Rattle.analysis_tests.specs.Boards.{IsSame, Has, Spends, LeavesJob, IsSide}

module _ {M W : Type 0} where
  -- a call that leaves all jobs, and what is in the place
  pub leaves_all : (s t : Sight M W) (job : Option ℕ) → IsSame s t
      → ((j : ℕ) → HasJob s.number j s.seen.order → HasJob t.number j t.seen.order) → Has s job → LeavesJob s t job job
  leaves_all s t job same keeps has = record {
    spends = record { same = same; others = λ j h other. keeps j h };
    has = λ j is. keeps j (has j is);
    others = λ j h other. other;
  }

  -- a job that came back stays, in its place
  pub leaves_back : (s u t : Sight M W) (old mid new : Option ℕ) (job back : ℕ) → Has s old → old ≡ Some job
      → back ≡ job → WasSpent s u → mid ≡ None → Spends u t mid → new ≡ Some back → LeavesJob s t old new
  leaves_back s u t old mid new job back has is same spent none spends there =
      let p : Spends s t mid = subst (λ (z : Sight M W). Spends z t mid) spent.1 spends in
      let nowhere : (j : ℕ) → mid ≢ Some j = λ j at. cc in record {
        spends = record { same = p.same; others = λ j h other. p.others j h (nowhere j) };
        has = λ j at. p.others j (has j (cc)) (nowhere j);
        others = λ j h other at. other (cc);
      }

  -- the call concerns the first place
  pub side_first : (id : TableId) (n : ℕ) (s t : Sight M W) (a b new : Option ℕ) → IsSide id n s a b → LeavesJob s t a new
      → IsSide id n t new b
  side_first id n s t a b new side leaves =
      let other : (j : ℕ) → b ≡ Some j → a ≢ Some j = λ j at same. side.apart j same at in record {
        board = leaves.spends.same.0 ∙ side.board;
        number = leaves.spends.same.1 ∙ side.number;
        boxes = leaves.spends.same.2 ∙ side.boxes;
        first = leaves.has;
        second = λ j at. leaves.spends.others j (side.second j at) (other j at);
        apart = λ j there at. leaves.others j (side.second j at) (other j at) there;
      }

  -- the call concerns the second place
  pub side_second : (id : TableId) (n : ℕ) (s t : Sight M W) (a b new : Option ℕ) → IsSide id n s a b → LeavesJob s t b new
      → IsSide id n t a new
  side_second id n s t a b new side leaves = record {
    board = leaves.spends.same.0 ∙ side.board;
    number = leaves.spends.same.1 ∙ side.number;
    boxes = leaves.spends.same.2 ∙ side.boxes;
    first = λ j at. leaves.spends.others j (side.first j at) (side.apart j at);
    second = leaves.has;
    apart = λ j at. leaves.others j (side.first j at) (side.apart j at);
  }

module _ {M W : Type 0} (fits : W → ℕ → M → Type 0) where
  -- the pass continues
  same_of : (s t : Sight M W) → GoesOn fits s t → IsSame s t
  same_of s t g = (g.board, g.number, g.before.boxes)

  -- a call that made no event
  pub leaves_none : (s t : Sight M W) (job : Option ℕ) → MadeNone fits s t → Has s job → LeavesJob s t job job
  leaves_none s t job m has = leaves_all s t job (same_of s t m.goes) (λ j h. kept_none fits s t j m h) has

  -- an abort that keeps the jobs
  pub leaves_alone : (s t : Sight M W) (job : Option ℕ) (a : Abort) → MadeAbort fits a s t → Has s job
      → LeavesJob s t job job
  leaves_alone s t job a m has = leaves_all s t job (same_of s t m.goes) (λ j h. abort_keeps fits s t a j m h) has

  -- an abort that spends the job
  pub leaves_abort : (s t : Sight M W) (old new : Option ℕ) (a : Abort) → new ≡ None → MadeAbort fits a s t
      → LeavesJob s t old new
  leaves_abort s t old new a none m = record {
    spends = record { same = same_of s t m.goes; others = λ j h other. abort_keeps fits s t a j m h };
    has = λ j at. cc;
    others = λ j h other at. cc;
  }

  -- a completion spends its job
  pub spends_done : (s t : Sight M W) (place : Option ℕ) (job : ℕ) → place ≡ Some job → WasDone fits job s t
      → Spends s t place
  spends_done s t place job is done = record {
    same = same_of s t done.goes;
    others = λ j h other. done_keeps fits s t job j done (λ e. other (is ∙ ap Some (sym e))) h;
  }

  -- a completion for which there was no call left, and an abort with the job
  pub spends_refused : (s u t : Sight M W) (place : Option ℕ) (a : Abort) → WasSpent s u → MadeAbort fits a u t
      → Spends s t place
  spends_refused s u t place a spent made =
      let m : MadeAbort fits a s t = subst (λ (z : Sight M W). MadeAbort fits a z t) spent.1 made in record {
        same = same_of s t m.goes;
        others = λ j h other. abort_keeps fits s t a j m h;
      }

  -- a completion leaves no job in the place
  pub leaves_done : (s t : Sight M W) (old new : Option ℕ) (job : ℕ) → old ≡ Some job → new ≡ None
      → WasDone fits job s t → LeavesJob s t old new
  leaves_done s t old new job is none done = record {
    spends = spends_done s t old job is done;
    has = λ j at. cc;
    others = λ j h other at. cc;
  }

  -- the job of a message that was taken is in the place
  pub leaves_taken : (s u t : Sight M W) (old new : Option ℕ) (job : ℕ) (m : M) → Has s old → TookOldest fits job m s u
      → Spends u t old → new ≡ Some job → LeavesJob s t old new
  leaves_taken s u t old new job m has took spends is =
      let new_is : (j : ℕ) → new ≡ Some j → job ≡ j = λ j at. same_Some job j (sym is ∙ at) in
      let first : IsSame s u = same_of s u took.added.goes in record {
        spends = record {
          same = (spends.same.0 ∙ first.0, spends.same.1 ∙ first.1, spends.same.2 ∙ first.2);
          others = λ j h other. spends.others j (take_keeps fits s u job j m took h) other;
        };
        has = λ j at.
            let fresh = subst (λ i. HasJob u.number i u.seen.order) (new_is j at) (job_new fits s u job m took) in
            spends.others j fresh (λ same. job_other fits s u job j m took (has j same) (sym (new_is j at)));
        others = λ j h other at. job_other fits s u job j m took h (sym (new_is j at));
      }

  -- a pass that learned keeps its jobs
  pub side_none : (id : TableId) (n : ℕ) (s t : Sight M W) (a b : Option ℕ) → IsSide id n s a b → MadeNone fits s t
      → IsSide id n t a b
  side_none id n s t a b side m =
      let same : IsSame s t = same_of s t m.goes in record {
        board = same.0 ∙ side.board;
        number = same.1 ∙ side.number;
        boxes = same.2 ∙ side.boxes;
        first = λ j at. kept_none fits s t j m (side.first j at);
        second = λ j at. kept_none fits s t j m (side.second j at);
        apart = side.apart;
      }
