use Rattle.path_sets.proofs.PointCountLemmas.{point_nodes}
use Rattle.path_sets.proofs.diagrams.diagrams.Diagrams.count.Goals as goal

pub returns : goal.returns
returns g c =
    let s = c.args.self.now in
    let r = c.args.diagram.now in
    point_nodes s.nodes.kept.keys s.roots.entries r.entry r.block c.args.bit c.root.result c.in_ok-nodes.nodes.kept.keys
    c.in_ok-nodes.number c.inner_nodes-count.result c.requires c.root.ensures c.in_ok-nodes.ensures.same c.inner_nodes-count.ensures
