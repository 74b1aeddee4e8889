use Rattle.language.proofs.Points.{bodies_numbered}
use Rattle.language.proofs.numbering.each_body_is_numbered_from_1.Goals as goal

pub returns : goal.returns
returns c = λ p q. bodies_numbered p.routines q
