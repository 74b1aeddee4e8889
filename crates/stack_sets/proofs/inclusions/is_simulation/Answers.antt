use Rattle.std.proofs.Common.{◌++◌, ◌≤◌, length, subst, refl}
use Rattle.stack_sets.specs.Nodes.{nodes_in}
use Rattle.stack_sets.proofs.WithinLemmas.{holds_more, holds_all}
use Rattle.stack_sets.proofs.inclusions.is_simulation.Goals as goal

pub loop-pair-preserved : goal.loop-pair-preserved
loop-pair-preserved g c =
    holds_more c.args.pairs.now.keys c.args.known.now.keys (nodes_in c.args.sets.now ++ c.args.more.now) c.as_slice-pair-items.result.now
    c.loop-pair.pair-index _ c.as_slice-pair-items.ensures.keys c.loop-pair.invariant (c.if-not-holds.ensures refl)

pub returns : goal.returns
returns g c t =
    holds_all c.args.pairs.now.keys c.args.known.now.keys (nodes_in c.args.sets.now ++ c.args.more.now) c.loop-pair.pair-index
    (subst (λ l. length l ≤ c.loop-pair.pair-index) c.as_slice-pair-items.ensures.keys c.loop-pair-test.false) c.loop-pair.invariant
