use Rattle.turns.proofs.NumberedLemmas.{numbers_fail}
use Rattle.turns.proofs.UnsafeLemmas.{unsafe_fails}
use Rattle.turns.proofs.laws.a_program_is_unsafe_where_a_turn_by_numbers_fails.Goals as goal

pub returns : goal.returns
returns g c = λ p graphs fails k (fit, order, are) narrow tell.
    let numbers = numbers_fail p graphs fit order are narrow fails tell k in
    (λ unsafe. numbers.0 ((unsafe_fails p k).0 unsafe), λ fail. (unsafe_fails p k).1 (numbers.1 fail))
