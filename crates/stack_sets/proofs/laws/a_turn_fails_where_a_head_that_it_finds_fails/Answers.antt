use Rattle.turns.specs.Numbered.{numbered_machine}
use Rattle.turns.proofs.FailLemmas.{turn_fails}
use Rattle.stack_sets.specs.Nodes.{by_number}
use Rattle.stack_sets.proofs.laws.a_turn_fails_where_a_head_that_it_finds_fails.Goals as goal

pub returns : goal.returns
returns g c = λ graphs fails nodes g0 q full. turn_fails (numbered_machine graphs fails) (by_number nodes) g0 q full
