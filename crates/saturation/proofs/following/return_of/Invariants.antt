use Rattle.std.proofs.Common.{◌+◌, ◌≤◌, length, take}
use Rattle.flow_graph.specs.Drawn.{graphs_of}
use Rattle.turns.specs.Numbered.{numbered_machine, Failures}
use Rattle.saturation.specs.Items.{Extends}
use Rattle.saturation.specs.Leads.{HaveAll, IsReturn, OfSome}
use Rattle.saturation.proofs.following.return_of.Given as goal

abbrev pub invariant-loop-one : goal.invariant-loop-one
invariant-loop-one g l =
    ((fails : Failures) → HaveAll (OfSome (λ one. IsReturn (numbered_machine (graphs_of l.graphs) fails) one l.caller)
    (take l.one-index l.finished)) l.items.keys)
    × ((fails : Failures) → Extends (OfSome (λ one. IsReturn (numbered_machine (graphs_of l.graphs) fails) one l.caller)
    l.finished) l.initial.items.keys l.items.keys)
    × (l.left + length l.items.keys ≤ l.initial.left + length l.initial.items.keys)
