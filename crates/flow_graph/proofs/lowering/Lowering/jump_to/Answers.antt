use Rattle.flow_graph.proofs.FlowLemmas.{does_goes}
use Rattle.flow_graph.proofs.lowering.Lowering.jump_to.Goals as goal

pub returns : goal.returns
returns g c = does_goes c.nothing.result c.args.to _ c.nothing.ensures.0 c.nothing.ensures.1
