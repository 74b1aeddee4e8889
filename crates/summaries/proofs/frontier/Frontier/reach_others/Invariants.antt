use Rattle.std.proofs.Common.{◌≤◌, ◌-◌}
use Rattle.summaries.specs.Frontiers.{IsWithin, StaysFrontier}
use Rattle.summaries.specs.Grows.{Grows, IsOtherBefore}
use Rattle.flow_graph.specs.Flows.{last_of}
use Rattle.summaries.proofs.frontier.Frontier.reach_others.Given as goal

abbrev pub invariant-choices : goal.invariant-choices
invariant-choices g l =
    Grows (IsOtherBefore l.choice l.flow l.from) (g.S.PathSet.members l.initial.self.edges.now)
    (g.S.PathSet.members l.self.edges.now) l.initial.self.pending.now.items l.self.pending.now.items
    × IsWithin g.S.PathSet.members l.self × StaysFrontier l.initial.self l.self
    × (1 ≤ l.choice) × (l.choice ≤ last_of l.flow)

abbrev pub decreases-choices : goal.decreases-choices
decreases-choices g l = last_of l.flow - l.choice
