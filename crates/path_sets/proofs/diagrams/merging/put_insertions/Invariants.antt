use Rattle.std.proofs.Common.{◌≡◌, ◌⊎◌, true, length}
use Rattle.indexmap.specs.IndexMap.{keys}
use Rattle.language.specs.Lists.{Member}
use Rattle.path_sets.specs.declared.diagrams.insertion.Insertion.{Insertion}
use Rattle.path_sets.specs.Triples.{Triple}
use Rattle.path_sets.specs.Diagrams.{TakesGiven, merged_has}
use Rattle.path_sets.specs.Insertions.{InInsertions}
use Rattle.path_sets.proofs.diagrams.merging.put_insertions.Given as goal

abbrev pub decreases-loop-left : goal.decreases-loop-left
decreases-loop-left g l = length l.left

abbrev pub invariant-loop-left : goal.invariant-loop-left
invariant-loop-left g l = record {
  same : keys l.merged.roots ≡ keys l.initial.merged.roots;
  taken : TakesGiven (InInsertions (keys l.initial.merged.roots) l.insertions) l.initial.merged.nodes.kept.keys l.merged.nodes.kept.keys
      l.initial.merged.roots.entries l.merged.roots.entries;
  among : (c : Insertion) → Member c l.left → Member c l.insertions;
  all : (t : Triple) → InInsertions (keys l.initial.merged.roots) l.insertions t
      → (merged_has l.merged.nodes.kept.keys l.merged.roots.entries t ≡ true) ⊎ InInsertions (keys l.initial.merged.roots) l.left t;
}
