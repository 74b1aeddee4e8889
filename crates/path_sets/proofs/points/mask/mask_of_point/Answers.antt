use Rattle.path_sets.proofs.MaskLemmas.{one_bit}
use Rattle.path_sets.proofs.points.mask.mask_of_point.Goals as goal

pub returns : goal.returns
returns g = one_bit g.args.bit g.requires
