-- what is kept is enough of the heads so far
use Rattle.std.proofs.Common.{◌++◌, take}
use Rattle.stack_sets.specs.Nodes.{nodes_in}
use Rattle.stack_sets.specs.Within.{AreWithin, found_in}
use Rattle.naming.specs.Pruned.{AreEnough}
use Rattle.naming.proofs.pruning.leave_out.Given as goal

abbrev pub invariant-loop-head : goal.invariant-loop-head
invariant-loop-head g l = record {
  known : AreWithin (nodes_in l.sets ++ l.nodes) (found_in l.known);
  enough : AreEnough (nodes_in l.sets ++ l.nodes) (take l.head-index l.heads) l.kept.items;
}
