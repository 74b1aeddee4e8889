use Rattle.std.proofs.Common.{◌+◌, ◌-◌, ◌≤◌, ◌<◌, ℕ, length}
use Rattle.flow_graph.specs.Drawn.{graphs_of}
use Rattle.flow_graph.specs.Flows.{last_of, next_of}
use Rattle.turns.specs.Numbered.{numbered_machine, Failures}
use Rattle.saturation.specs.Items.{Extends}
use Rattle.saturation.specs.Leads.{HaveAll, IsMove, IsNext}
use Rattle.saturation.proofs.following.follow_moves.Given as goal

abbrev pub invariant-choices : goal.invariant-choices
invariant-choices g l =
    ((choice : ℕ) → choice < l.choice → HaveAll (IsNext l.graph l.top (next_of l.flow l.values choice)) l.items.keys)
    × ((fails : Failures) → Extends (IsMove (numbered_machine (graphs_of l.graphs) fails) l.top) l.initial.items.keys l.items.keys)
    × (l.left + length l.items.keys ≤ l.initial.left + length l.initial.items.keys) × (l.choice ≤ last_of l.flow)

abbrev pub decreases-choices : goal.decreases-choices
decreases-choices g l = last_of l.flow - l.choice
