-- A stack of values as the bits of a number.
use mir.Val.{bool_byte}
use Rattle.std.proofs.Common.{◌≡◌, ◌<◌, ◌≤◌, ℕ, suc, ◌+◌, ◌*◌, ◌%◌, ◌^◌, ◌==◌, Bool}
use Rattle.std.proofs.Common.{true, false, List, [], ◌∷◌, length, refl}
use Rattle.std.proofs.Common.{◌∙◌, ap, arith, pow-suc}
use Rattle.std.proofs.Math.Pow.{pow_mono}
use Rattle.std.proofs.lemmas.Nat.Bits.{bit_at-lt}
use Rattle.std.specs.Int.{bit_at}
use Rattle.language.specs.Words.{word_bits}
use Rattle.flow_graph.specs.Bits.{bit_of, worth_of, coded}

pub worth_small : (b : Bool) → worth_of b < 2
worth_small true = omega arith
worth_small false = omega arith

pub coded_small : (bs : List Bool) → coded bs < 2 ^ length bs
coded_small [] = omega arith
coded_small (b ∷ bs) = omega (arith, worth_small b, coded_small bs, pow-suc 2 (length bs))

-- a stack of fewer than 64 values leaves room for one more
pub coded_room : (bs : List Bool) → length bs < 64 → coded bs < 9223372036854775808
coded_room bs h = let few : 2 ^ length bs ≤ 2 ^ 63 = pow_mono (let le : length bs ≤ 63 = omega (arith, h) in le) in
    let small = coded_small bs in omega (arith, few, small)

-- one more value on the stack
pub pushed : (n v : ℕ) (b : Bool) (bs : List Bool) → n ≡ coded bs → length bs < 64 → v ≡ worth_of b
    → n % 9223372036854775808 * 2 + v ≡ coded (b ∷ bs)
pushed n v b bs e h is = omega (arith, e, coded_room bs h, is)

-- a bit, as its value counts
pub bit_worth : (n i : ℕ) → bit_at n i ≡ worth_of (bit_of n i)
bit_worth n i = go (bit_at n i) (bit_at-lt n i)
  where
    go : (k : ℕ) → k < 2 → k ≡ worth_of (k == 1)
    go (suc (suc k)) h = absurd (omega (arith, h))
    go _ h = refl

pub read_worth : (n i : ℕ) → i < word_bits → bit_at n (i % word_bits) ≡ worth_of (bit_of n i)
read_worth n i h = let same : i % word_bits ≡ i = omega (arith, h) in ap (bit_at n) same ∙ bit_worth n i

pub byte_worth : (b : Bool) → bool_byte b ≡ worth_of b
byte_worth true = refl
byte_worth false = refl
