-- some right side reads the bit if one of those left does
use Rattle.std.proofs.Common.{◌≡◌, drop}
use Rattle.flow_graph.specs.Joining.{some_reads}
use Rattle.flow_graph.proofs.joining.some_reads.Given as goal

abbrev pub invariant-loop-write : goal.invariant-loop-write
invariant-loop-write g l = some_reads (drop l.write-index l.writes) l.bit ≡ some_reads l.writes l.bit
