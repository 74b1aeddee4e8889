-- the stack so far is the bits of the number, and what is left leads it to where all steps lead
use Rattle.std.proofs.Common.{◌≡◌, List, [], Bool, drop, length}
use Rattle.flow_graph.specs.Bits.{bit_of, coded}
use Rattle.flow_graph.specs.Postfix.{IsShallow, after_steps}
use Rattle.flow_graph.proofs.postfix.Postfix.value.Given as goal

abbrev pub invariant-loop-step : goal.invariant-loop-step
invariant-loop-step g l =
    (s : List Bool) × (l.stack ≡ coded s) × IsShallow (length s) (drop l.step-index l.step-items)
    × (after_steps (bit_of l.values) (drop l.step-index l.step-items) s ≡ after_steps (bit_of l.values) l.step-items [])
