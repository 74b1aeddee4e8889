use Rattle.std.proofs.Common.{refl, sym, ◌∙◌}
use Rattle.summaries.proofs.Dues.{due_told}
use Rattle.summaries.proofs.Steps.{number_of_due}
use Rattle.summaries.proofs.laws.each_message_has_its_numbers.Goals as goal

pub returns-clause-some : goal.returns-clause-some
returns-clause-some c = number_of_due

pub returns-clause-one : goal.returns-clause-one
returns-clause-one c = λ j k same. due_told j _ same ∙ sym (due_told k _ refl)
