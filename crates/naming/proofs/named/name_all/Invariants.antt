use Rattle.std.proofs.Common.{◌≤◌, take}
use Rattle.naming.specs.Names.{IsLevel, endings_in}
use Rattle.naming.specs.Holds.{HoldsFor}
use Rattle.naming.proofs.named.name_all.Given as goal

abbrev pub invariant-loop-item : goal.invariant-loop-item
invariant-loop-item g l = record {
  level : IsLevel l.named;
  few : endings_in l.named.parts.keys ≤ l.item-index;
  holds : HoldsFor l.base (take l.item-index l.items) l.named;
}
