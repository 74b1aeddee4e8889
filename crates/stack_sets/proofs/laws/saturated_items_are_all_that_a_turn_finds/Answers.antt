use Rattle.language.specs.Lists.{Member}
use Rattle.turns.specs.Numbered.{numbered_machine}
use Rattle.turns.proofs.SaturatedLemmas.{all_found}
use Rattle.stack_sets.specs.Nodes.{by_number}
use Rattle.stack_sets.proofs.laws.saturated_items_are_all_that_a_turn_finds.Goals as goal

pub returns : goal.returns
returns g c =
    λ graphs fails nodes g0 q items full. all_found (numbered_machine graphs fails) (by_number nodes) g0 q (λ x. Member x items) full
