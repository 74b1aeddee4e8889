use Rattle.std.proofs.Common.{◌≡◌, ◌+◌, take}
use Rattle.naming.specs.Moves.{filled, missing}
use Rattle.naming.proofs.keeping.fill.Given as goal

abbrev pub invariant-loop-name : goal.invariant-loop-name
invariant-loop-name g l = record {
  all : l.all.items ≡ filled l.first (take l.name-index l.names);
  next : l.next ≡ l.first + missing (take l.name-index l.names);
}
