use Rattle.std.proofs.Common.{◌∙◌, ap}
use Rattle.std.proofs.lemmas.Result.{IfOk-weaker}
use Rattle.language.specs.Tree.{var, negation, two, and}
use Rattle.trees.proofs.Folds.{expr_of-Var}
use Rattle.round_rewrite.proofs.writer.Writer.unless_in_round.Goals as goal

pub returns : goal.returns
returns g c =
    let other = c.in_ok-other.ensures ∙ ap negation c.in_ok-is_round.ensures in
    let copy = expr_of-Var _ ∙ ap var c.in_ok-name.ensures in
    IfOk-weaker c.operation.result _ _ (λ e so. so ∙ (λ i. two and (other i) (copy i))) c.operation.ensures
