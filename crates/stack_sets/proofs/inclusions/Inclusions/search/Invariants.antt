-- what is known holds
use Rattle.std.proofs.Common.{◌++◌}
use Rattle.stack_sets.specs.Nodes.{nodes_in}
use Rattle.stack_sets.specs.Within.{AreWithin, found_in}
use Rattle.stack_sets.proofs.inclusions.Inclusions.search.Given as goal

abbrev pub invariant-loop : goal.invariant-loop
invariant-loop g l = AreWithin (nodes_in l.sets ++ l.more) (found_in l.self)
