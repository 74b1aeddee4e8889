use Rattle.std.proofs.Common.{length, ◌-◌, ◌≡◌, ℕ, ◌<◌, ◌≤◌, Some, slice_get}
use Rattle.path_sets.specs.declared.diagrams.insertion.Insertion.{Insertion}
use Rattle.path_sets.specs.Halves.{ContinuesBy, valuation_of}
use Rattle.path_sets.proofs.diagrams.union.run_of.Given as goal

abbrev pub invariant-loop-end : goal.invariant-loop-end
invariant-loop-end l = record {
  within : l.end ≤ length l.insertions;
  some : 0 < l.end;
  all : (i : ℕ) (c : Insertion) → 0 < i → i < l.end → slice_get l.insertions i ≡ Some c → ContinuesBy (valuation_of c) l.level l.two;
}

abbrev pub decreases-loop-end : goal.decreases-loop-end
decreases-loop-end l = length l.insertions - l.end
