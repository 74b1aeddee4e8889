use Rattle.language.specs.Lists.{Member}
use Rattle.turns.specs.Numbered.{numbered_machine}
use Rattle.turns.specs.Turn.{Found}
use Rattle.turns.proofs.PartLemmas.{named_stacks}
use Rattle.turns.proofs.TurnLemmas.{found_ends}
use Rattle.stack_sets.specs.Nodes.{by_number}
use Rattle.stack_sets.proofs.laws.a_named_ending_has_the_stacks_that_a_turn_can_end_with.Goals as goal

pub returns : goal.returns
returns g c = λ graphs fails nodes g0 q after named are h m is stack.
    let same = named_stacks (by_number nodes) (Found (numbered_machine graphs fails) (by_number nodes) g0 q) (by_number after)
    (λ part n. Member (part, n) named) are h m is stack in
    let ends = found_ends (numbered_machine graphs fails) (by_number nodes) g0 q h stack in
    (λ inside. ends.0 (same.0 inside), λ end. same.1 (ends.1 end))
