use Rattle.std.proofs.Common.{◌≡◌}
use Rattle.path_sets.specs.Walks.{IsNumber}
use Rattle.path_sets.specs.Quads.{points_of}
use Rattle.path_sets.proofs.diagrams.quads.Quads.points.Given as goal

abbrev pub decreases-loop-at : goal.decreases-loop-at
decreases-loop-at g l = l.at

abbrev pub invariant-loop-at : goal.invariant-loop-at
invariant-loop-at g l = record {
  inside : IsNumber l.self.kept.keys l.at;
  same : points_of l.self.kept.keys l.at l.rest ≡ points_of l.self.kept.keys l.number l.values;
}
