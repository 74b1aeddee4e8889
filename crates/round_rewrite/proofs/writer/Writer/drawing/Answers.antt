use Rattle.std.proofs.Common.{◌∙◌, ap, ◌++◌}
use Rattle.std.proofs.lemmas.Result.{IfOk-weaker}
use Rattle.language.specs.Tree.{assign}
use Rattle.trees.specs.Trees.{simple, names_of, items_of, all_before}
use Rattle.round_rewrite.specs.Table.{no_mark, numbers}
use Rattle.round_rewrite.specs.Names.{drawn_name}
use Rattle.round_rewrite.specs.Writing.{naming_of}
use Rattle.round_rewrite.proofs.AppendLemmas.{laid}
use Rattle.round_rewrite.proofs.Forms.{drawing_some}
use Rattle.trees.proofs.Folds.{deed_of-Assign}
use Rattle.round_rewrite.proofs.writer.Writer.drawing.Goals as goal

pub returns : goal.returns
returns g c =
    let w = naming_of c.args.self.now in
    let last = c.args.self.now.rounds.last in
    let named = c.in_ok-targets.ensures
    ∙ ap (λ ns. names_of ns ++ Rattle.std.proofs.Common.map drawn_name (numbers 0 c.args.number)) c.new.ensures.items in
    let deed = deed_of-Assign _ _ ∙ (λ i. simple (assign (named i) (c.in_ok-sides.ensures i))) in
    IfOk-weaker c.push.result _ _
    (λ _ l k. laid _ _ no_mark _ _ l deed k
    ∙ ap (all_before (items_of c.args.into.now.items)) (Rattle.std.proofs.Common.sym
    (drawing_some w last c.args.number k c.if-number-eq0.false)))
    c.push.ensures
