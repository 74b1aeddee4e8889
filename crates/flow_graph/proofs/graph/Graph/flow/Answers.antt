use Rattle.std.proofs.Common.{refl}
use Rattle.std.proofs.lemmas.Option.{slice_get_read}
use Rattle.flow_graph.proofs.graph.Graph.flow.Goals as goal

pub returns : goal.returns
returns g c =
    slice_get_read c.args.self.now.flows.items _ c.args.point c.index.result.now
    refl c.requires c.index.ensures
