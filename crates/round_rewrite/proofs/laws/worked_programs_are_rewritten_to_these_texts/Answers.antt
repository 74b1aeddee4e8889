use Rattle.std.specs.Fmt.{digits}
use Rattle.grammar.specs.Printed.{printed}
use Rattle.round_rewrite.specs.WorkedTexts.{text}
use Rattle.round_rewrite.proofs.laws.worked_programs_are_rewritten_to_these_texts.Goals as goal

pub returns : goal.returns
unfolding printed text digits
returns c = assumption
