use Rattle.std.proofs.Common.{◌≡◌, ℕ, suc, ◌+◌, ◌-◌, ◌/◌, ◌%◌, ◌∙◌, ap, sym, map, arith}
use Rattle.std.proofs.lemmas.Result.{IfOk-weaker}
use Rattle.language.specs.Tree.{two, and}
use Rattle.round_rewrite.specs.Table.{numbers, literal, has_value}
use Rattle.round_rewrite.specs.Names.{bit_name}
use Rattle.round_rewrite.proofs.expression.+has_value.Goals as goal

-- the value of one more bit
one_lower : (v number above n a : ℕ) → n ≡ suc number → above ≡ suc a →
    two and (has_value (v / 2) (map bit_name (numbers n (suc a)))) (literal (v % 2) (bit_name number))
    ≡ has_value v (map bit_name (numbers number (suc above)))
one_lower v number above n a en ea =
    ap (λ k. two and (has_value (v / 2) (map bit_name (numbers k (suc a)))) (literal (v % 2) (bit_name number))) en
    ∙ sym (ap (λ k. has_value v (map bit_name (numbers number (suc k)))) ea)

pub returns : goal.returns
returns g t c =
    let some = c.if-above-eq0.false in
    let en : c.args.number + 1 ≡ suc c.args.number = omega arith in
    let ea : c.args.above ≡ suc (c.args.above - 1) = omega (arith, some) in
    let all = one_lower c.args.value c.args.number c.args.above (c.args.number + 1) (c.args.above - 1) en ea in
    IfOk-weaker c.operation.result _ _ (λ e so. so ∙ ((λ i. two and (c.in_ok-high.ensures i) (c.in_ok-low.ensures i)) ∙ all))
    c.operation.ensures
