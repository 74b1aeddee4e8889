use Rattle.std.proofs.Common.{◌≡◌, ℕ, ◌<◌, true}
use Rattle.indexmap.specs.IndexMap.{keys}
use Rattle.language.specs.Lists.{Member}
use Rattle.path_sets.specs.Triples.{Triple}
use Rattle.path_sets.specs.Edges.{mask_edges}
use Rattle.path_sets.specs.Diagrams.{TakesGiven, merged_has}
use Rattle.path_sets.specs.Batches.{masks_in, gathered_at}
use Rattle.path_sets.specs.GatheredKeys.{masks_of}
use Rattle.path_sets.proofs.diagrams.merging.put_batches.Given as goal

abbrev pub invariant-loop-at : goal.invariant-loop-at
invariant-loop-at g l = record {
  same : keys l.merged.roots ≡ keys l.initial.merged.roots;
  taken : TakesGiven (λ t. Member t (mask_edges (masks_in (keys l.initial.merged.roots) l.batches))) l.initial.merged.nodes.kept.keys
      l.merged.nodes.kept.keys l.initial.merged.roots.entries l.merged.roots.entries;
  all : (k : ℕ) (t : Triple) → k < l.at → Member t (mask_edges (masks_of (keys l.initial.merged.roots) (gathered_at l.batches k)))
      → merged_has l.merged.nodes.kept.keys l.merged.roots.entries t ≡ true;
}
