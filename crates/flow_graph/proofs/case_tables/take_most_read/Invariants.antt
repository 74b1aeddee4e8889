-- of the bits so far this one is read most often
use Rattle.std.proofs.Common.{◌<◌, ◌≤◌, ℕ, get_or}
use Rattle.resolved.specs.Limits.{most_places}
use Rattle.flow_graph.proofs.case_tables.take_most_read.Given as goal

abbrev pub invariant-loop-bit : goal.invariant-loop-bit
invariant-loop-bit l = (l.most < l.bit) × (l.bit ≤ most_places)
    × ((k : ℕ) → k < l.bit → get_or l.counts k 0 ≤ get_or l.counts l.most 0)
