use Rattle.language.proofs.Results.{fresh_result, given_result}
use Rattle.language.proofs.steps.a_result_is_0_until_a_value_is_returned.Goals as goal

pub returns : goal.returns
returns c = λ routine l v. (fresh_result routine l, given_result routine l v)
