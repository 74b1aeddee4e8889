use Rattle.std.proofs.Common.{◌≡◌, length}
use Rattle.naming.specs.Moves.{NoneHas}
use Rattle.naming.proofs.keeping.no_names.Given as goal

abbrev pub invariant-loop : goal.invariant-loop
invariant-loop g l = record {
  count : length l.names.items ≡ l.counter;
  none : NoneHas l.names.items;
}
