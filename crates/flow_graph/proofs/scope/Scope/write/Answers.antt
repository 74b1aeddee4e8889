-- The mask has the bit alone.
use Rattle.flow_graph.proofs.Assignments.{one_bit}
use Rattle.flow_graph.proofs.scope.Scope.write.Goals as goal

pub returns : goal.returns
returns g c = (one_bit c.args.bit c.requires.1, c.in_ok-side.ensures)
