use Rattle.std.proofs.Common.{refl}
use Rattle.std.proofs.lemmas.Option.{slice_get_read}
use Rattle.flow_graph.proofs.graph.Graphs.graph.Goals as goal

pub returns : goal.returns
returns g c =
    slice_get_read c.args.self.now.graphs.items _ c.args.procedure c.index.result.now
    refl c.requires c.index.ensures
