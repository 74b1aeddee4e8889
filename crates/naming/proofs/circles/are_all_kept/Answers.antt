use Rattle.std.proofs.Common.{refl}
use Rattle.stack_sets.specs.Nodes.{nodes_in}
use Rattle.naming.specs.Moves.{IsKeptAt}
use Rattle.naming.proofs.CircleLemmas.{all_kept, below_next}
use Rattle.naming.proofs.circles.are_all_kept.Goals as goal

pub loop-index-preserved : goal.loop-index-preserved
loop-index-preserved g c =
    below_next (IsKeptAt c.args.base c.args.names.now c.args.nodes.now (nodes_in c.args.sets.now)) c.loop-index.index
    c.loop-index.invariant (c.in_ok-is_kept_at.ensures c.if-not-branch.false)

pub returns : goal.returns
returns g c t =
    all_kept c.args.base c.args.nodes.now (nodes_in c.args.sets.now) c.args.names.now c.loop-index.index c.loop-index-test.false
    c.requires c.loop-index.invariant
