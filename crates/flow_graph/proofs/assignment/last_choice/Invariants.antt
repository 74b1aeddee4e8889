-- the last choice for the `?` so far, which are no more than all
use Rattle.std.proofs.Common.{◌≡◌, ◌+◌, ◌^◌, ℕ, drop}
use Rattle.flow_graph.specs.Assignments.{anys}
use Rattle.flow_graph.proofs.assignment.last_choice.Given as goal

abbrev pub invariant-loop-write : goal.invariant-loop-write
invariant-loop-write g l = (n : ℕ) × (l.last + 1 ≡ 2 ^ n) × (n + anys (drop l.write-index l.writes) ≡ anys l.writes)
