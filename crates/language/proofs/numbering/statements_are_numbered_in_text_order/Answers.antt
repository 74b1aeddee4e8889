use Rattle.language.proofs.Points.{points_numbered}
use Rattle.language.proofs.numbering.statements_are_numbered_in_text_order.Goals as goal

pub returns : goal.returns
returns c = points_numbered
