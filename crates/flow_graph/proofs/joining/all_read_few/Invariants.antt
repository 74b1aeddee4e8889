-- all read few if those left do
use Rattle.std.proofs.Common.{◌≡◌, drop}
use Rattle.flow_graph.specs.Joining.{all_read_few}
use Rattle.flow_graph.proofs.joining.all_read_few.Given as goal

abbrev pub invariant-loop-write : goal.invariant-loop-write
invariant-loop-write g l = all_read_few (drop l.write-index l.writes) ≡ all_read_few l.writes
