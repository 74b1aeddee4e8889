use Rattle.turns.specs.Numbered.{numbered_threads}
use Rattle.turns.specs.Tuples.{settled}
use Rattle.turns.proofs.TupleLemmas.{closed_safe}
use Rattle.stack_sets.specs.Nodes.{by_number}
use Rattle.stack_sets.proofs.laws.settled_tuples_of_which_none_fails_are_safe_for_any_rounds.Goals as goal

pub returns : goal.returns
returns g c =
    λ graphs fails threads nodes tuples closed never k.
    closed_safe (numbered_threads graphs fails threads) (by_number nodes) (settled tuples) k (closed k) (never k)
