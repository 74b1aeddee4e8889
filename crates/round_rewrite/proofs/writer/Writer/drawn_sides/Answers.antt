use Rattle.language.specs.Tree.{var}
use Rattle.trees.specs.Trees.{name_of, rhs_of, rhss_of}
use Rattle.round_rewrite.specs.Table.{copy_value}
use Rattle.round_rewrite.specs.Names.{drawn_name}
use Rattle.round_rewrite.specs.Writing.{naming_of}
use Rattle.std.proofs.Common.{◌∙◌, ap}
use Rattle.trees.proofs.Folds.{expr_of-Var}
use Rattle.round_rewrite.proofs.PushLemmas.{put_is, pushed_as, over_rounds}
use Rattle.round_rewrite.proofs.writer.Writer.drawn_sides.Goals as goal

pub returns : goal.returns
returns g c =
    over_rounds (copy_value (naming_of c.args.self.now) c.args.self.now.rounds.last (var (drawn_name c.args.number))
    (name_of c.args.x.now)) (rhss_of c.args.into.now.items) (rhss_of c.loop-round.into.items) c.loop-round.round
    c.count-round-end.result c.args.self.now.rounds.last
    c.loop-round.invariant c.loop-round-test.false c.loop-round.auto.round-end c.count-round-end.ensures.count

pub loop-round-preserved : goal.loop-round-preserved
loop-round-preserved g c =
    let one = put_is rhs_of c.copy_value.result _ _ _ c.in_ok-put_made.ensures c.copy_value.ensures in
    pushed_as rhs_of (λ d. copy_value (naming_of c.args.self.now) c.args.self.now.rounds.last d (name_of c.args.x.now)) _ _ _ _ _ _ _
    c.loop-round.invariant one.1 one.2 (expr_of-Var _ ∙ ap var c.in_ok-value.ensures)
