use Rattle.std.proofs.Common.{◌≡◌, suc, ◌-◌, ◌∙◌, ap, sym, ◌++◌, reverse, append-nil, arith}
use Rattle.trees.specs.Trees.{name_of, names_of}
use Rattle.round_rewrite.specs.Names.{bit_name, bit_names}
use Rattle.round_rewrite.proofs.PushLemmas.{put_is}
use Rattle.round_rewrite.proofs.RisingBitLemmas.{pushed_down}
use Rattle.round_rewrite.proofs.cores.push_bits.Goals as goal

pub loop-number-preserved : goal.loop-number-preserved
loop-number-preserved g c =
    let more = c.loop-number-test.true in
    let e : c.loop-number.number ≡ suc (c.loop-number.number - 1) = omega (arith, more) in
    let one = put_is name_of c.bit.result _ _ _ c.in_ok-put_made.ensures c.bit.ensures in
    ap (λ v. names_of v ++ reverse (bit_names (c.loop-number.number - 1))) one.1
    ∙ pushed_down bit_name name_of c.loop-number.list.items _ _ (c.loop-number.number - 1) c.loop-number.number e
    c.loop-number.invariant one.2

pub returns : goal.returns
returns g c =
    let none = c.loop-number-test.false in
    let e : 0 ≡ c.loop-number.number = omega (arith, none) in
    sym (append-nil (names_of c.loop-number.list.items))
    ∙ (ap (λ n. names_of c.loop-number.list.items ++ reverse (bit_names n)) e ∙ c.loop-number.invariant)
