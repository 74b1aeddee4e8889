-- no node changes
use Rattle.std.proofs.Common.{◌≡◌}
use Rattle.stack_sets.specs.Nodes.{nodes_in}
use Rattle.naming.proofs.circles.note_rest.Given as goal

abbrev pub invariant-loop : goal.invariant-loop
invariant-loop g l = nodes_in l.sets ≡ nodes_in l.fn.sets
