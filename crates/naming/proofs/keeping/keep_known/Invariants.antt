use Rattle.stack_sets.specs.Nodes.{IsPrefix, nodes_in}
use Rattle.naming.specs.Moves.{HaveNumbers}
use Rattle.naming.proofs.keeping.keep_known.Given as goal

abbrev pub invariant-loop : goal.invariant-loop
invariant-loop g l = record {
  kept : HaveNumbers l.base l.nodes l.names.items (nodes_in l.sets);
  keeps : IsPrefix (nodes_in l.fn.sets) (nodes_in l.sets);
}
