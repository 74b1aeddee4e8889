-- each word so far is the operator on those of the operands
use Rattle.std.proofs.Common.{◌≡◌, length}
use Rattle.trees.specs.Trees.{operator_of}
use Rattle.flow_graph.proofs.Rows.{AreCombined}
use Rattle.flow_graph.proofs.outputs.combined.Given as goal

abbrev pub invariant-loop-at : goal.invariant-loop-at
invariant-loop-at l = (length l.outputs ≡ 16) × AreCombined (operator_of l.op) l.left l.right l.outputs l.at
