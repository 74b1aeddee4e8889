use Rattle.std.proofs.Common.{◌+◌, ◌≤◌, length, take}
use Rattle.flow_graph.specs.Drawn.{graphs_of}
use Rattle.turns.specs.Numbered.{numbered_machine, Failures}
use Rattle.saturation.specs.Items.{Extends}
use Rattle.saturation.specs.Leads.{HaveAll, IsReturn, OfSome}
use Rattle.saturation.proofs.following.return_to.Given as goal

abbrev pub invariant-loop-caller : goal.invariant-loop-caller
invariant-loop-caller g l =
    ((fails : Failures) → HaveAll (OfSome (λ caller. IsReturn (numbered_machine (graphs_of l.graphs) fails) l.finished caller)
    (take l.caller-index l.callers)) l.items.keys)
    × ((fails : Failures) → Extends (OfSome (λ caller. IsReturn (numbered_machine (graphs_of l.graphs) fails) l.finished caller)
    l.callers) l.initial.items.keys l.items.keys)
    × (l.left + length l.items.keys ≤ l.initial.left + length l.initial.items.keys)
