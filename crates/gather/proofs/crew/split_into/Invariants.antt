-- The pairs so far are split, and there is room for all.
use Rattle.std.proofs.Common.{◌≡◌, ◌≤◌, ◌++◌, length, map, vec_capacity}
use Rattle.std.specs.Vec.Iter.{into_iter_items}
use Rattle.jobs.specs.Jobs.{first_of, second_of}
use Rattle.gather.proofs.crew.split_into.Given as goal

abbrev pub invariant-loop-result : goal.invariant-loop-result
invariant-loop-result g l =
    (l.yielded ++ into_iter_items l.result-iterator ≡ l.fn.results.items)
    × (l.firsts.items ≡ map first_of l.yielded)
    × (l.seconds.items ≡ map second_of l.yielded)
    × (length l.fn.results.items ≤ vec_capacity l.firsts)
    × (length l.fn.results.items ≤ vec_capacity l.seconds)
