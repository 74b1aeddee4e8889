use Rattle.std.proofs.Common.{◌≡◌, ◌<◌, ℕ, sym, ◌∙◌, true≢false}
use Rattle.path_sets.specs.Contents.{diagrams_in, is_merged}
use Rattle.path_sets.specs.Edges.{edge_at}
use Rattle.path_sets.specs.GatheredKeys.{gathered_key, mask_key_at}
use Rattle.path_sets.specs.Masks.{bit_of}
use Rattle.path_sets.proofs.GatherLemmas.{points_known}
use Rattle.path_sets.proofs.diagrams.batch.Batch.first_mask.Given as given
use Rattle.path_sets.proofs.diagrams.batch.Batch.first_mask.Goals as goal
use Rattle.path_sets.proofs.diagrams.batch.Batch.first_mask.Goals.{After-points_at-mask}

-- the points that are read are those that the diagrams have at the key
known : (g : given.Over) (c : After-points_at-mask g) (b : ℕ) → b < 64
    → bit_of c.points_at-mask.result b
    ≡ is_merged c.args.merged.now
    (edge_at (mask_key_at (diagrams_in c.args.merged.now) (gathered_key c.args.diagram c.args.values)) b)
known g c =
    points_known c.args.merged.now (gathered_key c.args.diagram c.args.values) c.points_at-mask.result c.requires.diagram
    c.points_at-mask.ensures

pub returns-then-add_point-clause-some : goal.returns-then-add_point-clause-some
returns-then-add_point-clause-some g c =
    let i = (goal.at.returns-then-add_point-clause-some g c).After-points_at-mask in
    (c.points_at-mask.result, known g i, c.if-add_point.ensures)

pub returns-then-add_point-clause-none : goal.returns-then-add_point-clause-none
returns-then-add_point-clause-none g c e = absurd (true≢false e)

pub returns-else-add_point-clause-none : goal.returns-else-add_point-clause-none
returns-else-add_point-clause-none g c e =
    let i = (goal.at.returns-else-add_point-clause-none g c).After-points_at-mask in
    sym (known g i c.args.bit c.requires.bit) ∙ c.if-add_point.ensures.0
