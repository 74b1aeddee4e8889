use Rattle.tokens.proofs.PartsCut.{parts_ascii, parts_cut}
use Rattle.tokens.proofs.parts.parts_are_cut.Goals as goal

pub returns : goal.returns
returns c = record { ascii = parts_ascii; cuts = parts_cut }
