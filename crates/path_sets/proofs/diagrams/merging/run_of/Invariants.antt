use Rattle.std.proofs.Common.{length, ◌-◌, ◌≡◌, ℕ, ◌<◌, ◌≤◌, Some, slice_get}
use Rattle.path_sets.specs.declared.diagrams.insertion.Insertion.{Insertion}
use Rattle.path_sets.proofs.diagrams.merging.run_of.Given as goal

abbrev pub decreases-loop-end : goal.decreases-loop-end
decreases-loop-end l = length l.insertions - l.end

abbrev pub invariant-loop-end : goal.invariant-loop-end
invariant-loop-end l = record {
  some : 0 < l.end;
  within : l.end ≤ length l.insertions;
  all : (i : ℕ) (c : Insertion) → 0 < i → i < l.end → slice_get l.insertions i ≡ Some c → c.diagram ≡ l.diagram;
}
