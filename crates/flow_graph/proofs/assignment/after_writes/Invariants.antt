-- what is after_writes so far, with the writes left, is what all writes make of the valuation before
use Rattle.std.proofs.Common.{◌≡◌, drop}
use Rattle.flow_graph.specs.Assignments.{after_writes}
use Rattle.flow_graph.proofs.assignment.after_writes.Given as goal

abbrev pub invariant-loop-write : goal.invariant-loop-write
invariant-loop-write g l =
    after_writes (drop l.write-index l.writes) l.values l.left l.next ≡ after_writes l.writes l.values l.choice l.before
