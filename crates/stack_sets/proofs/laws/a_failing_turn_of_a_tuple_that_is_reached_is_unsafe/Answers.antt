use Rattle.turns.specs.Numbered.{numbered_threads}
use Rattle.turns.specs.Tuples.{met_by}
use Rattle.turns.proofs.TupleLemmas.{reached_fails}
use Rattle.stack_sets.specs.Nodes.{by_number}
use Rattle.stack_sets.proofs.laws.a_failing_turn_of_a_tuple_that_is_reached_is_unsafe.Goals as goal

pub returns : goal.returns
returns g c =
    λ graphs fails threads nodes tuples k reached.
    reached_fails (numbered_threads graphs fails threads) (by_number nodes) (met_by tuples) k reached
