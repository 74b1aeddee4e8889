use Rattle.std.proofs.Common.{length, ◌-◌, ◌*◌, ◌≡◌, ℕ, true, ◌⊎◌, ◌↔◌}
use Rattle.path_sets.specs.Halves.{half_levels}
use Rattle.path_sets.specs.Masks.{bit_of}
use Rattle.path_sets.specs.Quads.{AreInside, IsInserted, KeepQuads, points_of, sees}
use Rattle.path_sets.proofs.diagrams.union.+union.Given as goal

abbrev pub decreases-union : goal.decreases-union
decreases-union g l = 2 * half_levels - l.level

abbrev pub decreases-loop-left : goal.decreases-loop-left
decreases-loop-left g l = length l.left

abbrev pub invariant-loop-left : goal.invariant-loop-left
invariant-loop-left g l = record {
  keeps : KeepQuads l.initial.nodes.kept.keys l.nodes.kept.keys;
  inside : AreInside l.nodes.kept.keys l.quad;
  joins : (v point : ℕ) → ((bit_of (sees l.nodes.kept.keys l.quad v) point ≡ true) ⊎ IsInserted l.left l.level v point)
      ↔ ((bit_of (points_of l.initial.nodes.kept.keys l.number v) point ≡ true) ⊎ IsInserted l.insertions l.level v point);
}
