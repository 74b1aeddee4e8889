-- These are the results so far, and there is room for all.
use Rattle.std.proofs.Common.{◌≡◌, ◌≤◌, ◌++◌, ℕ, Some, length, slice_get, vec_capacity}
use Rattle.std.specs.Vec.Iter.{into_iter_items}
use Rattle.jobs.proofs.BeginLemmas.{Ended}
use Rattle.jobs.proofs.jobs.end_all.Given as goal

abbrev pub invariant-loop-one : goal.invariant-loop-one
invariant-loop-one g l =
    (l.yielded ++ into_iter_items l.one-iterator ≡ l.fn.begun.items)
    × (length l.results.items ≡ length l.yielded)
    × ((i : ℕ) (b : _) (c : _) → slice_get l.fn.begun.items i ≡ Some b → slice_get l.results.items i ≡ Some c
    → Ended g.J.Job.runs g.J.Job.declines g.L.Lineup.jobs i b c)
    × (length l.fn.begun.items ≤ vec_capacity l.results)
