-- no node changes
use Rattle.std.proofs.Common.{◌≡◌}
use Rattle.stack_sets.specs.Nodes.{nodes_in}
use Rattle.naming.proofs.circles.note_contents.Given as goal

abbrev pub invariant-loop-index : goal.invariant-loop-index
invariant-loop-index g l = nodes_in l.sets ≡ nodes_in l.fn.sets
