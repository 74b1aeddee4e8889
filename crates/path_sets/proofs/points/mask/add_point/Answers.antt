use Rattle.path_sets.proofs.MaskLemmas.{marked}
use Rattle.path_sets.proofs.points.mask.add_point.Goals as goal

pub returns : goal.returns
returns g =
    marked g.args.mask.now g.mask_of_point.result g.args.bit g.has_point-known.result g.has_point-known.ensures
    g.mask_of_point.ensures
