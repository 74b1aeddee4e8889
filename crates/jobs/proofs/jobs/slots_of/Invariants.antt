-- The jobs so far are in slots, and there is room for all.
use Rattle.std.proofs.Common.{◌≡◌, ◌≤◌, ◌++◌, length, vec_capacity}
use Rattle.std.specs.Vec.Iter.{into_iter_items}
use Rattle.jobs.proofs.jobs.slots_of.Given as goal

abbrev pub invariant-loop-job : goal.invariant-loop-job
invariant-loop-job g l =
    (l.yielded ++ into_iter_items l.job-iterator ≡ l.fn.jobs.items)
    × (length l.slots.items ≡ length l.yielded)
    × (length l.fn.jobs.items ≤ vec_capacity l.slots)
