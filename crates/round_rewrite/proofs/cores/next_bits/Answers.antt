use Rattle.std.proofs.Common.{◌≡◌, suc, ◌-◌, ◌∙◌, ap, sym, ◌++◌, map, reverse, append-nil, arith}
use Rattle.language.specs.Tree.{value}
use Rattle.language.specs.Sequential.{numbers}
use Rattle.trees.specs.Trees.{rhs_of, rhss_of}
use Rattle.round_rewrite.specs.Writing.{raised_bit}
use Rattle.round_rewrite.proofs.RisingBitLemmas.{raised_bits, pushed_down}
use Rattle.round_rewrite.proofs.cores.next_bits.Goals as goal

pub loop-number-preserved : goal.loop-number-preserved
loop-number-preserved g c =
    let more = c.loop-number-test.true in
    let e : c.loop-number.number ≡ suc (c.loop-number.number - 1) = omega (arith, more) in
    ap (λ v. rhss_of v ++ reverse (map (λ j. value (raised_bit j)) (numbers 0 (c.loop-number.number - 1)))) c.in_ok-put.ensures
    ∙ pushed_down (λ j. value (raised_bit j)) rhs_of c.loop-number.list.items _ _ (c.loop-number.number - 1) c.loop-number.number e
    c.loop-number.invariant (ap value c.in_ok-next_bit.ensures)

pub returns : goal.returns
returns g c =
    let none = c.loop-number-test.false in
    let e : 0 ≡ c.loop-number.number = omega (arith, none) in
    sym (append-nil (rhss_of c.loop-number.list.items))
    ∙ (ap (λ n. rhss_of c.loop-number.list.items ++ reverse (map (λ j. value (raised_bit j)) (numbers 0 n))) e
    ∙ (c.loop-number.invariant ∙ ap reverse (sym (raised_bits c.args.count))))
