-- each pair so far holds
use Rattle.std.proofs.Common.{take, ◌++◌}
use Rattle.stack_sets.specs.Nodes.{nodes_in}
use Rattle.stack_sets.specs.Within.{EachHolds}
use Rattle.stack_sets.proofs.inclusions.is_simulation.Given as goal

abbrev pub invariant-loop-pair : goal.invariant-loop-pair
invariant-loop-pair g l = EachHolds (nodes_in l.sets ++ l.more) l.pairs.keys l.known.keys (take l.pair-index l.pairs.keys)
