-- The entry so far, with what the arguments left add to it, is the whole entry; it has no bit from the next on.
use Rattle.std.proofs.Common.{◌≡◌, ◌<◌, ◌+◌, ◌*◌, ◌^◌, drop, map}
use Rattle.flow_graph.specs.Bits.{coded}
use Rattle.flow_graph.specs.Calls.{call_entry}
use Rattle.flow_graph.specs.Formulas.{says}
use Rattle.flow_graph.proofs.call.Call.entry.Given as goal

abbrev pub invariant-loop-argument : goal.invariant-loop-argument
invariant-loop-argument g l =
    (l.entry + 2 ^ l.bit * coded (map (λ f. says f l.values) (drop l.argument-index l.argument-items))
    ≡ call_entry l.self.globals l.argument-items l.values)
    × (l.entry < 2 ^ l.bit) × (l.bit ≡ l.self.globals + l.argument-index)
