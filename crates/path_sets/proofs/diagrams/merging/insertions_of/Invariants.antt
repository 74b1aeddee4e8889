use Rattle.std.proofs.Common.{List, take}
use Rattle.path_sets.specs.declared.diagrams.roots.DiagramKey.{DiagramKey}
use Rattle.path_sets.specs.Insertions.{AreInsertions}
use Rattle.path_sets.specs.GatheredKeys.{AreWithin, masks_of}
use Rattle.path_sets.proofs.diagrams.merging.insertions_of.Given as goal

abbrev pub invariant-loop-at : goal.invariant-loop-at
invariant-loop-at g l = record {
  insertions : (diagrams : List DiagramKey) → AreWithin diagrams l.masks.entries
      → AreInsertions diagrams (take l.at (masks_of diagrams l.masks.entries)) l.insertions.items;
}
