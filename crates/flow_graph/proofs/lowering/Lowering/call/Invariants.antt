-- What the formulas so far say, and then the other arguments, are the values of all arguments.
use Rattle.std.proofs.Common.{◌≡◌, ◌++◌, Bool, List, drop, length, map}
use Rattle.language.specs.Value.{values_of}
use Rattle.language.specs.Resolve.{resolve_expression}
use Rattle.trees.specs.Trees.{exprs_of}
use Rattle.flow_graph.specs.Bits.{coded}
use Rattle.flow_graph.specs.Formulas.{says}
use Rattle.flow_graph.specs.Lowering.{lowering_scope}
use Rattle.flow_graph.proofs.lowering.Lowering.call.Given as goal

abbrev pub invariant-loop-e : goal.invariant-loop-e
invariant-loop-e g l =
    (length l.arguments.items ≡ l.e-index)
    × ((gs ls : List Bool) → length gs ≡ length (lowering_scope l.self).globals →
    map (λ f. says f (coded (gs ++ ls))) l.arguments.items ++ values_of gs ls
    (map (resolve_expression (lowering_scope l.self)) (exprs_of (drop l.e-index l.es)))
    ≡ values_of gs ls (map (resolve_expression (lowering_scope l.self)) (exprs_of l.es)))
