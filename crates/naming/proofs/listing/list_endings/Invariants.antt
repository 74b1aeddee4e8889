use Rattle.std.proofs.Common.{◌≡◌, take, length}
use Rattle.naming.specs.Names.{AreListed, endings_in}
use Rattle.naming.proofs.listing.list_endings.Given as goal

abbrev pub invariant-loop-index : goal.invariant-loop-index
invariant-loop-index g l = record {
  listed : AreListed l.names (take l.index l.parts) l.endings.items;
  count : length l.endings.items ≡ endings_in (take l.index l.parts);
}
