-- Each half has its bits of the number.
use Rattle.std.proofs.Common.{◌≡◌, ◌<◌, ◌≤◌, ◌/◌, ◌%◌, ◌-◌, ◌^◌, ◌∙◌, ℕ, ap, sym, arith}
use Rattle.std.specs.Int.{bit_at}
use Rattle.std.proofs.Math.Pow.{split}
use Rattle.std.proofs.lemmas.Nat.Bits.{bit_at_cat_high}
use Rattle.flow_graph.proofs.WindowLemmas.{low_bit}
use Rattle.flow_graph.proofs.bit.half.Goals as goal

high_bit : (n i : ℕ) → 64 ≤ i → bit_at (n / 2 ^ 64) (i - 64) ≡ bit_at n i
high_bit n i high =
    sym (bit_at_cat_high (n / 2 ^ 64) 64 (n % 2 ^ 64) i (omega arith) high) ∙ ap (λ x. bit_at x i) (split n 64)

pub returns-then-at-lt-HALF : goal.returns-then-at-lt-HALF
returns-then-at-lt-HALF c i within same =
    let low : i < 64 = omega (arith, same, c.if-at-lt-HALF.true) in
    ap (bit_at (c.args.values % 2 ^ 64)) (let z : i % 64 ≡ i = omega (arith, low) in z) ∙ low_bit 64 c.args.values i low

pub returns-else-at-lt-HALF : goal.returns-else-at-lt-HALF
returns-else-at-lt-HALF c i within same =
    let high : 64 ≤ i = omega (arith, same, c.if-at-lt-HALF.false) in
    ap (bit_at (c.args.values / 2 ^ 64)) (let z : i % 64 ≡ i - 64 = omega (arith, high, within) in z)
    ∙ high_bit c.args.values i high
