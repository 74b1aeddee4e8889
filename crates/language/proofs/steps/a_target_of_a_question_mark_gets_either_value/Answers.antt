use Rattle.language.proofs.EitherValue.{either, gets}
use Rattle.language.proofs.steps.a_target_of_a_question_mark_gets_either_value.Goals as goal

pub returns : goal.returns
returns c = λ p a l k m t fs u. (λ f. either a l k t fs u f.0 f.1 f.2, gets a l k t fs u)
