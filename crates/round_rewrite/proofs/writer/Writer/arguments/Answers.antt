use Rattle.std.proofs.Common.{◌∙◌, ap, ◌++◌, ◌+◌, map, drop}
use Rattle.trees.specs.Trees.{expr_of, exprs_of}
use Rattle.round_rewrite.specs.Table.{expression_form}
use Rattle.round_rewrite.specs.Writing.{naming_of}
use Rattle.round_rewrite.proofs.PushLemmas.{put_is, one_through, all_through}
use Rattle.round_rewrite.proofs.writer.Writer.arguments.Goals as goal

pub loop-e-preserved : goal.loop-e-preserved
loop-e-preserved g c =
    let f = expression_form (naming_of c.args.self.now) c.args.self.now.rounds.last in
    let one = put_is expr_of c.expression.result _ _ _ c.in_ok-put_made.ensures c.expression.ensures in
    ap (λ l. exprs_of l ++ map f (exprs_of (drop (c.loop-e.e-index + 1) c.args.es.now))) one.1
    ∙ one_through expr_of f expr_of c.loop-e.list.items one.0 c.args.es.now c.loop-e.e-index c.e-item.result _
    c.loop-e-test.true c.e-item.is one.2 c.loop-e.invariant

pub returns : goal.returns
returns g c =
    all_through expr_of (expression_form (naming_of c.args.self.now) c.args.self.now.rounds.last) expr_of
    c.loop-e.list.items c.args.es.now c.loop-e.e-index _ c.loop-e-test.false c.loop-e.invariant
