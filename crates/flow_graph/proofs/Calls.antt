-- Entries of calls, argument by argument.
use Rattle.std.proofs.Common.{◌≡◌, ℕ, ◌+◌, ◌*◌, ◌^◌, ◌%◌, ◌<◌, ◌≤◌, ◌-◌, ◌/◌, Bool, List}
use Rattle.std.proofs.Common.{◌∷◌, map, ◌∙◌, ap, arith, add-one, pow-suc}
use Rattle.std.proofs.Math.Nat.{mod-lt, div-add-mod, mul-add, mul-le-mul_left, lt_of_mul-lt-mul_left}
use Rattle.std.proofs.lemmas.Nat.{pow-add, pow_pos}
use Rattle.std.proofs.Math.Pow.{pow_mono}
use Rattle.flow_graph.specs.Bits.{worth_of, coded}
use Rattle.flow_graph.proofs.Rows.{row_step, below_next}
use Rattle.language.specs.Words.{word_bits}
use Rattle.resolved.specs.Limits.{most_places}

-- the place of the next bit counts twice that of this one
doubled : (bit : ℕ) → 2 ^ (bit + 1) ≡ 2 ^ bit * 2
doubled bit = ap (λ n. 2 ^ n) (add-one bit) ∙ omega (arith, pow-suc 2 bit)

-- one more argument of an entry
pub argument_step : {A : Type 0} (f : A → Bool) (xs rest : List A) (x : A) (entry bit worth whole : ℕ)
    → entry + 2 ^ bit * coded (map f xs) ≡ whole → xs ≡ x ∷ rest
    → worth ≡ worth_of (f x) → entry < 2 ^ bit → bit < most_places
    → (entry + worth * 2 ^ bit % 2 ^ word_bits + 2 ^ (bit + 1) * coded (map f rest) ≡ whole)
    × (entry + worth * 2 ^ bit % 2 ^ word_bits < 2 ^ (bit + 1))
argument_step f xs rest x entry bit worth whole h e is small within =
    let twice = doubled bit in
    let most : 2 ^ (bit + 1) ≤ 2 ^ word_bits = pow_mono (let le : bit + 1 ≤ word_bits = omega (arith, within) in le) in
    let below = below_next (f x) entry (2 ^ bit) worth small is in
    let exact : worth * 2 ^ bit % 2 ^ word_bits ≡ worth * 2 ^ bit = omega (arith, below, twice, most) in
    let all = row_step f xs rest x entry (2 ^ bit) worth whole h e is in
    let rest_same : 2 ^ (bit + 1) * coded (map f rest) ≡ 2 ^ bit * 2 * coded (map f rest) = ap (λ n. n * coded (map f rest)) twice in
    (omega (arith, exact, all, rest_same), omega (arith, exact, below, twice))

-- an entry of fewer places than there are has room for one more argument
pub entry_fits : (b : Bool) (entry bit worth : ℕ) → worth ≡ worth_of b → entry < 2 ^ bit → bit < most_places →
    entry + worth * 2 ^ bit % 2 ^ word_bits < 2 ^ word_bits
entry_fits b entry bit worth is small within =
    let most : 2 ^ (bit + 1) ≤ 2 ^ word_bits = pow_mono (let le : bit + 1 ≤ word_bits = omega (arith, within) in le) in
    let below = below_next b entry (2 ^ bit) worth small is in
    omega (arith, below, doubled bit, most)

-- the lowest bits of one number and the others of another fit a word
pub room_below : (g v b low old : ℕ) → g ≤ most_places → v < 2 ^ word_bits → low ≡ b % 2 ^ g → old ≡ v % 2 ^ g
    → low + (v - old) < 2 ^ word_bits
room_below g v b low old within fits is is' =
    let rest : 2 ^ (g + (word_bits - g)) ≡ 2 ^ g * 2 ^ (word_bits - g) = pow-add 2 g (word_bits - g) in
    let all : g + (word_bits - g) ≡ word_bits = omega (arith, within) in
    let whole : 2 ^ (g + (word_bits - g)) ≡ 2 ^ word_bits = ap (λ n. 2 ^ n) all in
    let parts = div-add-mod v (2 ^ g) in
    let above : v / 2 ^ g < 2 ^ (word_bits - g) = lt_of_mul-lt-mul_left (2 ^ g) (omega (arith, parts, rest, whole, fits)) in
    let most : 2 ^ g * (v / 2 ^ g + 1) ≤ 2 ^ g * 2 ^ (word_bits - g) =
    mul-le-mul_left (2 ^ g) (let le : v / 2 ^ g + 1 ≤ 2 ^ (word_bits - g) = omega (arith, above) in le) in
    let one_more : 2 ^ g * (v / 2 ^ g + 1) ≡ 2 ^ g * (v / 2 ^ g) + 2 ^ g = mul-add (2 ^ g) (v / 2 ^ g) 1
    ∙ (let e : 2 ^ g * (v / 2 ^ g) + 2 ^ g * 1 ≡ 2 ^ g * (v / 2 ^ g) + 2 ^ g = omega arith in e) in
    let small = mod-lt b (pow_pos g) in
    omega (arith, is, is', parts, most, one_more, rest, whole, small)
