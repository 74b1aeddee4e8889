use Rattle.std.proofs.Common.{◌∙◌, ap}
use Rattle.std.proofs.lemmas.Result.{IfOk-weaker}
use Rattle.language.specs.Tree.{done, choose}
use Rattle.trees.specs.Trees.{rhs_of, items_of, marked_before, all_before}
use Rattle.round_rewrite.specs.Table.{no_mark, side}
use Rattle.round_rewrite.specs.Writing.{naming_of}
use Rattle.trees.proofs.Folds.{deed_of-Skip}
use Rattle.round_rewrite.proofs.writer.Writer.asserted.Goals as goal

pub returns : goal.returns
returns g c =
    let yes = c.in_ok-yes.ensures ∙ ap (λ d. marked_before no_mark d done) (deed_of-Skip g.row.A.Denot) in
    let test = side (naming_of c.args.self.now) c.args.self.now.rounds.last (rhs_of c.args.r.now) in
    IfOk-weaker c.push_if.result _ _
    (λ _ l k. l k ∙ (λ i. all_before (items_of c.args.into.now.items) (choose no_mark test (yes i) (c.in_ok-no.ensures i) k)))
    c.push_if.ensures
