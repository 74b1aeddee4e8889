-- what is known holds
use Rattle.std.proofs.Common.{◌++◌}
use Rattle.stack_sets.specs.Nodes.{nodes_in}
use Rattle.stack_sets.specs.Within.{AreWithin, found_in}
use Rattle.naming.proofs.pruning.is_covered.Given as goal

abbrev pub invariant-loop-back : goal.invariant-loop-back
invariant-loop-back g l = AreWithin (nodes_in l.sets ++ l.nodes) (found_in l.known)
