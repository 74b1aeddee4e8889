-- the nodes so far are pruned
use Rattle.std.proofs.Common.{◌++◌, take}
use Rattle.stack_sets.specs.Nodes.{nodes_in}
use Rattle.stack_sets.specs.Within.{AreWithin, found_in}
use Rattle.naming.specs.Pruned.{ArePruned}
use Rattle.naming.proofs.pruning.prune_all.Given as goal

abbrev pub invariant-loop-node : goal.invariant-loop-node
invariant-loop-node g l = record {
  known : AreWithin (nodes_in l.sets ++ l.nodes) (found_in l.known);
  pruned : ArePruned (nodes_in l.sets ++ l.nodes) (take l.node-index l.nodes) l.pruned.items;
}
