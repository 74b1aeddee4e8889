-- The bits of a mask, and one more of them.
use Rattle.std.proofs.Common.{bit_or, ◌≡◌, ◌≢◌, ℕ, zero, suc, ◌<◌, ◌*◌, ◌^◌, ◌%◌, ◌≤◌}
use Rattle.std.proofs.Common.{nat_lt, Bool, true, false, not}
use Rattle.std.proofs.Common.{cond, max, ◌==◌, ◌∷◌, inl, inr, refl, sym, ap, ap₂, ◌∙◌, subst, true≢false, arith}
use Rattle.std.specs.Int.{bit_at}
use Rattle.std.proofs.lemmas.Bool.{cases_eq, ltb-true, ltb-false}
use Rattle.std.proofs.lemmas.Nat.Bits.{bit_at-lt, bit_at_or, bit_at-pow_same, bit_at-pow_other, same_from_bits}
use Rattle.std.proofs.Math.Pow.{pow_mono}
use Rattle.language.specs.Lists.{Member}
use Rattle.path_sets.specs.Inserts.{Inserts, here, there}
use Rattle.path_sets.specs.Masks.{bit_of, bits_below, AddsPoint}

-- what is listed is below the bound, and 1
pub bits_known : (m b n : ℕ) → Member b (bits_below m n) → (b < n) × (bit_of m b ≡ true)
bits_known m b zero h = elim h [ ]
bits_known m b (suc n) h =
    by (bit_of m n) refl (λ more. let k = bits_known m b n more in let lt : b < n = k.0 in (omega (arith, lt), k.1)) h
  where
    by : (v : Bool) → bit_of m n ≡ v → (Member b (bits_below m n) → (b < suc n) × (bit_of m b ≡ true)) →
        Member b (cond v (n ∷ bits_below m n) (bits_below m n)) → (b < suc n) × (bit_of m b ≡ true)
    by true e below (inl is) = (omega (arith, is), ap (bit_of m) is ∙ e)
    by true e below (inr more) = below more
    by false e below more = below more

-- what is below the bound and 1 is listed
pub bits_hold : (m b n : ℕ) → b < n → bit_of m b ≡ true → Member b (bits_below m n)
bits_hold m b zero lt set = absurd (omega (arith, lt))
bits_hold m b (suc n) lt set = go (nat_lt b n) refl (λ less. bits_hold m b n less set)
  where
    on : (v : Bool) → Member b (bits_below m n) → Member b (cond v (n ∷ bits_below m n) (bits_below m n))
    on true h = inr h
    on false h = h

    top : (v : Bool) → bit_of m n ≡ v → b ≡ n → Member b (cond v (n ∷ bits_below m n) (bits_below m n))
    top true e is = inl is
    top false e is = absurd (true≢false (sym set ∙ ap (bit_of m) is ∙ e))

    go : (t : Bool) → nat_lt b n ≡ t → (b < n → Member b (bits_below m n)) → Member b (bits_below m (suc n))
    go true less rest = on (bit_of m n) (rest (ltb-true b n less))
    go false more rest = let least = ltb-false b n more in top (bit_of m n) refl (omega (arith, least, lt))

-- masks with the same bits have the same lists
pub same_bits : (a b n : ℕ) → ((i : ℕ) → i < n → bit_of a i ≡ bit_of b i) → bits_below a n ≡ bits_below b n
same_bits a b zero h = refl
same_bits a b (suc n) h =
    let rest = same_bits a b n (λ i lt. h i (omega (arith, lt))) in
    let top = h n (omega arith) in
    λ j. cond (top j) (n ∷ rest j) (rest j)

-- if a bit that was 0 becomes 1, and no other changes, it is put into the list
pub put_bit : (m w b n : ℕ) → b < n → bit_of m b ≡ false → bit_of w b ≡ true →
    ((i : ℕ) → i ≢ b → bit_of w i ≡ bit_of m i) → Inserts b (bits_below m n) (bits_below w n)
put_bit m w b zero lt clear set others = absurd (omega (arith, lt))
put_bit m w b (suc n) lt clear set others = go (nat_lt b n) refl (λ less. put_bit m w b n less clear set others)
  where
    Put : Bool → Bool → Type 0
    Put u v = Inserts b (cond u (n ∷ bits_below m n) (bits_below m n)) (cond v (n ∷ bits_below w n) (bits_below w n))

    same : Inserts b (bits_below m n) (bits_below w n) → (v : Bool) → Put v v
    same rest true = there n (bits_below m n) (bits_below w n) rest
    same rest false = rest

    top : b ≡ n → Put false true
    top is =
        let rest = same_bits w m n (λ i lt'. others i (λ e. omega (arith, lt', e, is))) in
        subst (λ xs. Inserts b (bits_below m n) (n ∷ xs)) (sym rest)
        (subst (λ k. Inserts b (bits_below m n) (k ∷ bits_below m n)) is (here (bits_below m n)))

    go : (t : Bool) → nat_lt b n ≡ t → (b < n → Inserts b (bits_below m n) (bits_below w n)) →
        Inserts b (bits_below m (suc n)) (bits_below w (suc n))
    go true less rest =
        let below = ltb-true b n less in
        let still : bit_of w n ≡ bit_of m n = others n (λ e. omega (arith, below, e)) in
        subst (Put (bit_of m n)) (sym still) (same (rest below) (bit_of m n))
    go false more rest =
        let least = ltb-false b n more in
        let is : b ≡ n = omega (arith, least, lt) in
        subst (λ u. Put u (bit_of w n)) (sym (ap (bit_of m) (sym is) ∙ clear))
        (subst (Put false) (sym (ap (bit_of w) (sym is) ∙ set)) (top is))

-- one bit alone
pub one_bit : (b : ℕ) → b < 64 → 1 * 2 ^ b % 2 ^ 64 ≡ 2 ^ b
one_bit b h = let most : 2 ^ b ≤ 2 ^ 63 = pow_mono (let z : b ≤ 63 = omega (arith, h) in z) in omega (arith, most)

-- a bit that is not 1 is 0
clear_bit : (x : ℕ) → x < 2 → (x == 1) ≡ false → x ≡ 0
clear_bit zero lt h = refl
clear_bit (suc zero) lt h = absurd (true≢false h)
clear_bit (suc (suc x)) lt h = absurd (omega (arith, lt))

set_bit : (x : ℕ) → x < 2 → (x == 1) ≡ true → x ≡ 1
set_bit zero lt h = absurd (true≢false (sym h))
set_bit (suc zero) lt h = refl
set_bit (suc (suc x)) lt h = absurd (omega (arith, lt))

max_none : (x : ℕ) → max x 0 ≡ x
max_none x = omega arith

-- a bit that is put in is 1, and the others are as they were
put_in_is : (m b : ℕ) → bit_of m b ≡ false → bit_of (bit_or m (2 ^ b)) b ≡ true
put_in_is m b clear =
    ap (λ x. x == 1)
    (bit_at_or m (2 ^ b) b ∙ ap₂ max (clear_bit (bit_at m b) (bit_at-lt m b) clear) (bit_at-pow_same b))

others_are : (m b i : ℕ) → i ≢ b → bit_of (bit_or m (2 ^ b)) i ≡ bit_of m i
others_are m b i ne =
    ap (λ x. x == 1) (bit_at_or m (2 ^ b) i ∙ ap (max (bit_at m i)) (bit_at-pow_other b i ne) ∙ max_none (bit_at m i))

-- a bit that is 1 stays
stays_in : (m b : ℕ) → bit_of m b ≡ true → bit_or m (2 ^ b) ≡ m
stays_in m b set = same_from_bits (bit_or m (2 ^ b)) m (λ i. elim (cases_eq i b) [
  | inl is ↦ ap (bit_at (bit_or m (2 ^ b))) is ∙ here ∙ sym (ap (bit_at m) is)
  | inr ne ↦ bit_at_or m (2 ^ b) i ∙ ap (max (bit_at m i)) (bit_at-pow_other b i ne) ∙ max_none (bit_at m i)
])
  where
    one : bit_at m b ≡ 1
    one = set_bit (bit_at m b) (bit_at-lt m b) set

    here : bit_at (bit_or m (2 ^ b)) b ≡ bit_at m b
    here = bit_at_or m (2 ^ b) b ∙ ap₂ max one (bit_at-pow_same b) ∙ sym one

-- a bit that was 0 is put in, and one that was 1 leaves the mask as it is
pub marked : (m w b : ℕ) (known : Bool) → known ≡ bit_of m b → w ≡ 2 ^ b → AddsPoint b m (bit_or m w) (not known)
marked m w b true was is = (sym was, ap (bit_or m) is ∙ stays_in m b (sym was))
marked m w b false was is =
    subst (λ x. AddsPoint b m (bit_or m x) true) (sym is) (sym was, put_in_is m b (sym was), others_are m b)
