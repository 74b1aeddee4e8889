use Rattle.std.proofs.Common.{sym, ◌∙◌, ap, rules}
use Rattle.flow_graph.specs.Flows.{last_of}
use Rattle.flow_graph.proofs.flow.Flow.last.Goals as goal

pub returns-in-Assign : goal.returns-in-Assign
returns-in-Assign g c = c.last.ensures ∙ sym (ap last_of c.in-Assign.is)

pub returns-in-Test-Any-default-default : goal.returns-in-Test-Any-default-default
returns-in-Test-Any-default-default g c = search rules
