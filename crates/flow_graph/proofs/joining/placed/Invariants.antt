-- the values of the row left, in the bits left, make the whole
use Rattle.std.proofs.Common.{◌≡◌, drop}
use Rattle.flow_graph.specs.Joining.{placed}
use Rattle.flow_graph.proofs.joining.placed.Given as goal

abbrev pub invariant-loop-bit : goal.invariant-loop-bit
invariant-loop-bit l = placed (drop l.bit-index l.bits) l.left l.values ≡ placed l.bits l.row 0
