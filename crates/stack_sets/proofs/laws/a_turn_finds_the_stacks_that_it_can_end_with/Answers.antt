use Rattle.turns.specs.Numbered.{numbered_machine}
use Rattle.turns.proofs.TurnLemmas.{found_ends}
use Rattle.stack_sets.specs.Nodes.{by_number}
use Rattle.stack_sets.proofs.laws.a_turn_finds_the_stacks_that_it_can_end_with.Goals as goal

pub returns : goal.returns
returns g c = λ graphs fails nodes g0 q h stack. found_ends (numbered_machine graphs fails) (by_number nodes) g0 q h stack
