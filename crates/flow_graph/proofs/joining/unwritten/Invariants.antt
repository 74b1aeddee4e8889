-- the mask so far, without the bits that are still to be written, is the whole
use Rattle.std.proofs.Common.{◌≡◌, drop}
use Rattle.flow_graph.specs.Joining.{unwritten, all_bits}
use Rattle.flow_graph.proofs.joining.unwritten.Given as goal

abbrev pub invariant-loop-write : goal.invariant-loop-write
invariant-loop-write g l = unwritten (drop l.write-index l.writes) l.kept ≡ unwritten l.writes all_bits
