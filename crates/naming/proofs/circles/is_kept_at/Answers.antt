use Rattle.stack_sets.specs.Nodes.{nodes_in}
use Rattle.naming.proofs.CircleLemmas.{kept_here}
use Rattle.naming.proofs.circles.is_kept_at.Goals as goal

pub returns : goal.returns
returns g c t =
    kept_here c.args.base c.args.nodes.now (nodes_in c.args.sets.now) c.args.names.now c.args.index c.in-Some.number c.node_in.result.now
    c.node_in.ensures c.in-Some.ensures (c.in_ok-kept.ensures t)
