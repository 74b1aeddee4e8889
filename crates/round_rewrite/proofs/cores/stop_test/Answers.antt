use Rattle.std.proofs.Common.{◌∙◌, ap}
use Rattle.language.specs.Tree.{var, value, done}
use Rattle.trees.specs.Trees.{branch, marked_before}
use Rattle.round_rewrite.specs.Table.{no_mark}
use Rattle.trees.proofs.Folds.{expr_of-Var, deed_of-Skip, deed_of-Return, deed_of-If}
use Rattle.round_rewrite.proofs.cores.stop_test.Goals as goal

pub returns : goal.returns
returns g c =
    let yes = c.in_ok-yes.ensures ∙ ap (λ d. marked_before no_mark d done) (deed_of-Return g.row.A.Denot) in
    let no = c.in_ok-no.ensures ∙ ap (λ d. marked_before no_mark d done) (deed_of-Skip g.row.A.Denot) in
    let test = expr_of-Var _ ∙ ap var c.in_ok-stop.ensures in
    deed_of-If _ _ _ ∙ (λ i. branch (value (test i)) (yes i) (no i))
