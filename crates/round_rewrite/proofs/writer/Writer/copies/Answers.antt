use Rattle.std.proofs.Common.{◌∙◌, ap}
use Rattle.trees.specs.Trees.{name_of, names_of}
use Rattle.round_rewrite.specs.Names.{copy_name}
use Rattle.round_rewrite.proofs.PushLemmas.{put_is, pushed, over_rounds}
use Rattle.round_rewrite.proofs.writer.Writer.copies.Goals as goal

pub loop-round-preserved : goal.loop-round-preserved
loop-round-preserved g c =
    let one = put_is name_of c.copy.result _ _ _ c.in_ok-put_made.ensures c.copy.ensures in
    ap names_of one.1
    ∙ pushed name_of (λ k. copy_name k (name_of c.args.x.now)) (names_of c.args.into.now.items) c.loop-round.into.items one.0
    c.loop-round.round c.loop-round.invariant one.2

pub returns : goal.returns
returns g c =
    over_rounds (λ k. copy_name k (name_of c.args.x.now)) (names_of c.args.into.now.items) (names_of c.loop-round.into.items)
    c.loop-round.round c.count-round-end.result c.args.self.now.rounds.last
    c.loop-round.invariant c.loop-round-test.false c.loop-round.auto.round-end c.count-round-end.ensures.count
