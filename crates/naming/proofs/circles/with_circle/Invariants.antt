use Rattle.std.proofs.Common.{◌≡◌, length}
use Rattle.naming.proofs.CircleLemmas.{KeepsBelow}
use Rattle.naming.proofs.circles.with_circle.Given as goal

abbrev pub invariant-loop-index : goal.invariant-loop-index
invariant-loop-index g l = record {
  count : length l.all.items ≡ l.index;
  keeps : KeepsBelow l.index l.names l.all.items;
}
