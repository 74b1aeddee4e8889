use Rattle.std.proofs.Common.{◌≡◌, ◌+◌, ◌-◌, ℕ, Some, length, slice_get}
use Rattle.path_sets.proofs.diagrams.batches.fill.Given as goal

abbrev pub decreases-loop-homes : goal.decreases-loop-homes
decreases-loop-homes g l = l.diagram + 1 - length l.homes.items

abbrev pub invariant-loop-homes : goal.invariant-loop-homes
invariant-loop-homes g l = record {
  stay : (i k : ℕ) → slice_get l.initial.homes.items i ≡ Some k → slice_get l.homes.items i ≡ Some k;
}
