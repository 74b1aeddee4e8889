use Rattle.trees.specs.Trees.{names_of, rhss_of}
use Rattle.flow_graph.specs.Lowering.{lowering_scope}
use Rattle.flow_graph.proofs.FlowLemmas.{does_assigns}
use Rattle.flow_graph.proofs.lowering.Lowering.assignment.Goals as goal

pub returns : goal.returns
returns g c =
    let s = lowering_scope c.args.self.now in
    let assigns = c.in_ok-assignment in
    does_assigns assigns.field-0 s _ (names_of c.args.xs.now) (rhss_of c.args.rs.now) c.args.to assigns.ensures
