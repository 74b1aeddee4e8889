use Rattle.std.proofs.Common.{◌≡◌, suc, ◌+◌, ◌∙◌, ap, arith}
use Rattle.language.specs.Tree.{equal, var, value, two, assume}
use Rattle.trees.specs.Trees.{simple, name_of}
use Rattle.round_rewrite.specs.Names.{save_name}
use Rattle.trees.proofs.Folds.{expr_of-Var, deed_of-Assume}
use Rattle.round_rewrite.proofs.main_procedure.agrees.Goals as goal

pub returns : goal.returns
returns g c =
    let kept = expr_of-Var _
    ∙ ap var
    (c.in_ok-kept.ensures
    ∙ ap (λ n. save_name n (name_of c.args.x.now)) (let e : c.args.round + 1 ≡ suc c.args.round = omega arith in e)) in
    let reached = expr_of-Var _ ∙ ap var c.in_ok-reached.ensures in
    let same = c.in_ok-same.ensures ∙ (λ i. two equal (kept i) (reached i)) in
    deed_of-Assume _ ∙ (λ i. simple (assume (value (same i))))
