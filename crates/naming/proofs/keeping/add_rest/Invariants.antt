use Rattle.std.proofs.Common.{◌≡◌, ◌+◌, length, take}
use Rattle.stack_sets.specs.Nodes.{IsPrefix, nodes_in}
use Rattle.naming.specs.Moves.{AreKept, IsNumber, missing}
use Rattle.naming.proofs.KeepLemmas.{Done}
use Rattle.naming.proofs.keeping.add_rest.Given as goal

abbrev pub invariant-loop-index : goal.invariant-loop-index
invariant-loop-index g l = record {
  keeps : IsPrefix (nodes_in l.fn.sets) (nodes_in l.sets);
  count : length (nodes_in l.sets) ≡ length (nodes_in l.fn.sets) + missing (take l.index l.names);
  kept : AreKept l.base (IsNumber l.all) (Done l.names l.all l.index) l.nodes (nodes_in l.sets);
}
