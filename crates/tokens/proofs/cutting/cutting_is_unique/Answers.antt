use Rattle.tokens.proofs.OneCut.{one_cut, never_both, one_place}
use Rattle.tokens.proofs.cutting.cutting_is_unique.Goals as goal

pub returns : goal.returns
returns c = record { tokens = one_cut; uncut = never_both; place = one_place }
