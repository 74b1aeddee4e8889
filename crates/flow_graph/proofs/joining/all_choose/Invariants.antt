-- all are for places that follow one another if those left are
use Rattle.std.proofs.Common.{◌≡◌, drop}
use Rattle.flow_graph.specs.Joining.{all_choose}
use Rattle.flow_graph.proofs.joining.all_choose.Given as goal

abbrev pub invariant-loop-write : goal.invariant-loop-write
invariant-loop-write g l = all_choose (drop l.write-index l.writes) l.bit ≡ all_choose l.writes l.first
