use Rattle.turns.specs.Numbered.{numbered_threads}
use Rattle.turns.specs.Tuples.{met_by}
use Rattle.turns.proofs.TupleLemmas.{closed_safe}
use Rattle.stack_sets.specs.Nodes.{by_number}
use Rattle.stack_sets.proofs.laws.closed_tuples_of_which_none_fails_are_safe.Goals as goal

pub returns : goal.returns
returns g c =
    λ graphs fails threads nodes tuples k closed never.
    closed_safe (numbered_threads graphs fails threads) (by_number nodes) (met_by tuples) k closed never
