use Rattle.std.proofs.Common.{ℕ, ◌<◌}
use Rattle.stack_sets.specs.Nodes.{nodes_in}
use Rattle.naming.specs.Moves.{IsKeptAt}
use Rattle.naming.proofs.circles.are_all_kept.Given as goal

abbrev pub invariant-loop-index : goal.invariant-loop-index
invariant-loop-index g l = (i : ℕ) → i < l.index → IsKeptAt l.base l.names l.nodes (nodes_in l.sets) i
