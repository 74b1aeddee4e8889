-- Bits of numbers that are shifted.
use Rattle.std.proofs.Common.{◌≡◌, ℕ, suc, ◌+◌, ◌-◌, ◌*◌, ◌/◌, ◌%◌, ◌^◌, ◌<◌, ◌≤◌, ◌==◌}
use Rattle.std.proofs.Common.{sym, ap, ◌∙◌, subst, arith}
use Rattle.std.specs.Int.{bit_at}
use Rattle.std.proofs.Math.Nat.{div-div-eq-div-mul, pow-suc}
use Rattle.std.proofs.lemmas.Nat.{shl-shr, shr-shr, field_of, mod-pow-add, mul-pow, pow-add}
use Rattle.std.proofs.lemmas.Nat.Bits.{bit_at_lowest, bit_at-suc}
use Rattle.path_sets.specs.Masks.{bit_of}

-- what is shifted up has its bits so much higher
pub up_bit : (y l j : ℕ) → bit_of (y * 2 ^ l) (l + j) ≡ bit_of y j
up_bit y l j = ap (λ x. x % 2 == 1) (sym (shr-shr (y * 2 ^ l) l j) ∙ ap (λ x. x / 2 ^ j) (shl-shr y l))

-- what is shifted down has them so much lower
pub down_bit : (v l j : ℕ) → bit_of (v / 2 ^ l) j ≡ bit_of v (l + j)
down_bit v l j = ap (λ x. x % 2 == 1) (shr-shr v l j)

-- a bit before a number's bits
pub first_of : (b z : ℕ) → b < 2 → bit_of (b + z * 2) 0 ≡ (b == 1)
first_of b z small = let same : (b + z * 2) % 2 ≡ b = omega arith in ap (λ x. x == 1) (bit_at_lowest (b + z * 2) ∙ same)

pub later_of : (b z j : ℕ) → b < 2 → bit_of (b + z * 2) (suc j) ≡ bit_of z j
later_of b z j small =
    let same : (b + z * 2) / 2 ≡ z = omega arith in
    ap (λ x. x == 1) (bit_at-suc (b + z * 2) j ∙ ap (λ x. bit_at x j) same)

-- a bit at a level, and a number's bits from the next level on
abbrev pub with_bit : ℕ → ℕ → ℕ → ℕ
with_bit level b u = (b + u * 2) * 2 ^ level

pub bit_here : (l b u : ℕ) → b < 2 → bit_of (with_bit l b u) l ≡ (b == 1)
bit_here l b u small =
    let same : l + 0 ≡ l = omega arith in
    subst (λ k. bit_of (with_bit l b u) k ≡ (b == 1)) same (up_bit (b + u * 2) l 0 ∙ first_of b u small)

pub bit_after : (l b u j : ℕ) → b < 2 → bit_of (with_bit l b u) (l + suc j) ≡ bit_of u j
bit_after l b u j small = up_bit (b + u * 2) l (suc j) ∙ later_of b u j small

-- the bits above the level are those of the number that is shifted up
pub bits_above : (l b u i : ℕ) → b < 2 → l < i → bit_of (with_bit l b u) i ≡ bit_of (u * 2 ^ (l + 1)) i
bits_above l b u i small less =
    let here : l + suc (i - l - 1) ≡ i = omega (arith, less) in
    let there : l + 1 + (i - l - 1) ≡ i = omega (arith, less) in
    ap (bit_of (with_bit l b u)) (sym here) ∙ bit_after l b u (i - l - 1) small ∙ sym (up_bit u (l + 1) (i - l - 1))
    ∙ ap (bit_of (u * 2 ^ (l + 1))) there

-- a number with its bit of a level put in, and those below left out
pub bits_same : (l b v i : ℕ) → b < 2 → l < i → bit_of (with_bit l b (v / 2 ^ (l + 1))) i ≡ bit_of v i
bits_same l b v i small less =
    let here : l + suc (i - l - 1) ≡ i = omega (arith, less) in
    let there : l + 1 + (i - l - 1) ≡ i = omega (arith, less) in
    ap (bit_of (with_bit l b (v / 2 ^ (l + 1)))) (sym here) ∙ bit_after l b (v / 2 ^ (l + 1)) (i - l - 1) small
    ∙ down_bit v (l + 1) (i - l - 1) ∙ ap (bit_of v) there

-- the low bits of a number
pub low_bit : (w m j : ℕ) → bit_of (w % 2 ^ (m + 1 + j)) j ≡ bit_of w j
low_bit w m j =
    let x = w / 2 ^ j in
    let split : x % 2 ^ (m + 1) ≡ (x / 2 ^ 1 % 2 ^ m) * 2 ^ 1 + x % 2 ^ 1 = mod-pow-add x m 1 in
    let same : x % 2 ^ (m + 1) % 2 ≡ x % 2 = omega (arith, split) in
    ap (λ y. y % 2 == 1) (field_of w (m + 1) j) ∙ ap (λ y. y == 1) same

-- a number's bits from a level on and below an end, the others left out
pub bits_within : (v l e i : ℕ) → l ≤ i → i < e → bit_of (v / 2 ^ l % 2 ^ (e - l) * 2 ^ l) i ≡ bit_of v i
bits_within v l e i least most =
    let here : l + (i - l) ≡ i = omega (arith, least) in
    let room : e - i - 1 + 1 + (i - l) ≡ e - l = omega (arith, least, most) in
    ap (bit_of (v / 2 ^ l % 2 ^ (e - l) * 2 ^ l)) (sym here) ∙ up_bit (v / 2 ^ l % 2 ^ (e - l)) l (i - l)
    ∙ ap (λ k. bit_of (v / 2 ^ l % 2 ^ k) (i - l)) (sym room) ∙ low_bit (v / 2 ^ l) (e - i - 1) (i - l) ∙ down_bit v l (i - l)
    ∙ ap (bit_of v) here

pub next_pow : (l : ℕ) → 2 ^ (l + 1) ≡ 2 ^ l * 2
next_pow l = let same : l + 1 ≡ suc l = omega arith in ap (λ k. 2 ^ k) same ∙ pow-suc 2 l

bit_and_twice : (b u m : ℕ) → b * m + u * (m * 2) ≡ (b + u * 2) * m
bit_and_twice b u m = grind arith

-- a bit after a prefix, and a suffix of the next level
pub after_bit : (p b u l : ℕ) → p + b * 2 ^ l + u * 2 ^ (l + 1) ≡ p + with_bit l b u
after_bit p b u l =
    let sum : p + b * 2 ^ l + u * (2 ^ l * 2) ≡ p + (b * 2 ^ l + u * (2 ^ l * 2)) = omega arith in
    ap (λ m. p + b * 2 ^ l + u * m) (next_pow l) ∙ sum ∙ ap (λ k. p + k) (bit_and_twice b u (2 ^ l))

-- two bits at each level
pub four_pow : (l : ℕ) → 4 ^ l ≡ 2 ^ (2 * l)
four_pow l = let twice : 2 * l ≡ l + l = omega arith in mul-pow 2 2 l ∙ sym (pow-add 2 l l) ∙ ap (λ k. 2 ^ k) (sym twice)

-- what is left at the next level
pub next_rest : (v l : ℕ) → v / 4 ^ (l + 1) ≡ v / 4 ^ l / 4
next_rest v l =
    let same : l + 1 ≡ suc l = omega arith in
    ap (λ k. v / 4 ^ k) same ∙ ap (λ k. v / k) (pow-suc 4 l) ∙ sym (div-div-eq-div-mul v (4 ^ l) 4)
