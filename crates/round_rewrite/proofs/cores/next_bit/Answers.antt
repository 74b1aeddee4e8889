use Rattle.std.proofs.Common.{◌≡◌, suc, ◌-◌, ◌∙◌, ap, arith}
use Rattle.std.proofs.lemmas.Result.{IfOk-weaker}
use Rattle.language.specs.Tree.{var, two, xor}
use Rattle.trees.proofs.Folds.{expr_of-Var}
use Rattle.round_rewrite.proofs.RisingBitLemmas.{raised_next}
use Rattle.round_rewrite.proofs.cores.next_bit.Goals as goal

pub returns : goal.returns
returns g c =
    let more = c.if-number-eq0.false in
    let e : c.args.number ≡ suc (c.args.number - 1) = omega (arith, more) in
    let bit = expr_of-Var _ ∙ ap var c.in_ok-name.ensures in
    IfOk-weaker c.operation.result _ _
    (λ _ so. so ∙ ((λ i. two xor (bit i) (c.in_ok-below.ensures i)) ∙ raised_next c.args.number (c.args.number - 1) e))
    c.operation.ensures
