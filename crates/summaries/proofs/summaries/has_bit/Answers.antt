-- A valuation is below 2 ^ 128, so no bit past its width is 1.
use Rattle.std.proofs.Common.{◌≡◌, ◌<◌, ◌≤◌, ◌^◌, ◌%◌, ◌==◌, ◌∙◌, ℕ, false, nat_lt, ap, sym, arith}
use Rattle.std.proofs.Math.Nat.{div-eq_of_lt, pow-le-pow_right}
use Rattle.std.proofs.lemmas.Bool.Decides.{nat_tests}
use Rattle.language.specs.Words.{word_bits}
use Rattle.flow_graph.specs.Bits.{bit_of}
use Rattle.summaries.proofs.summaries.has_bit.Goals as goal

-- a number has no bit at or past its width
none_past : (w n i : ℕ) → n < 2 ^ w → w ≤ i → bit_of n i ≡ false
none_past w n i below past =
    let wide : 2 ^ w ≤ 2 ^ i = pow-le-pow_right (omega arith) past in
    ap (λ m. m % 2 == 1) (div-eq_of_lt (omega (arith, wide, below)))

pub returns-else-bit : goal.returns-else-bit
returns-else-bit c =
    let values : c.args.values < 2 ^ word_bits = omega (arith, c.ranges.values.fits) in
    let no : nat_lt c.args.bit word_bits ≡ false = grind (arith, nat_tests) in
    no ∙ sym (none_past word_bits c.args.values c.args.bit values c.if-bit.false)
