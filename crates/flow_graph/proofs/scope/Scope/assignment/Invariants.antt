-- writes for the targets left, after those so far, are writes for all
use Rattle.flow_graph.specs.Views.{scope_seen}
use Rattle.flow_graph.proofs.Assignments.{Leads, kept_from}
use Rattle.flow_graph.proofs.scope.Scope.assignment.Given as goal

abbrev pub invariant-loop-at : goal.invariant-loop-at
invariant-loop-at g l =
    Leads (scope_seen l.self) l.writes.items (kept_from (scope_seen l.self) l.targets l.sides l.at)
    (kept_from (scope_seen l.self) l.targets l.sides 0)
