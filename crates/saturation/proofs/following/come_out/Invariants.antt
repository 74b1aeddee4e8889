use Rattle.std.proofs.Common.{◌+◌, ◌≤◌, length, take}
use Rattle.flow_graph.specs.Drawn.{graphs_of}
use Rattle.turns.specs.Numbered.{numbered_machine, Failures}
use Rattle.saturation.specs.Items.{Extends}
use Rattle.saturation.specs.Leads.{HaveAll, IsReturn, OfSome, resting_in}
use Rattle.saturation.proofs.following.come_out.Given as goal

abbrev pub invariant-loop-head : goal.invariant-loop-head
invariant-loop-head g l =
    ((fails : Failures) → HaveAll (OfSome (λ one. IsReturn (numbered_machine (graphs_of l.graphs) fails) l.finished (resting_in one))
    (take l.head-index l.heads)) l.items.keys)
    × ((fails : Failures) → Extends (OfSome (λ one. IsReturn (numbered_machine (graphs_of l.graphs) fails) l.finished (resting_in one))
    l.heads) l.initial.items.keys l.items.keys)
    × (l.left + length l.items.keys ≤ l.initial.left + length l.initial.items.keys)
