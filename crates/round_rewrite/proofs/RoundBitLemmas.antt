-- The bits of a round: what they tell, how they rise to the next round, and how they are set to 0.
use Rattle.std.proofs.Common.{◌≡◌, ℕ, zero, suc, ◌+◌, ◌*◌, ◌/◌, ◌%◌, ◌^◌, ◌<◌, ◌≤◌, ◌⊎◌, inl, inr, Bool, true, false, not, cond, ◌&&◌, List}
use Rattle.std.proofs.Common.{[], ◌∷◌, ◌++◌, length, map, nat_lt, eqb, reverse, refl, sym, ◌∙◌, ap, ap₂, subst, arith}
use Rattle.std.proofs.lemmas.Bool.{cases_eq, eq-eqb, ne_eqb}
use Rattle.std.proofs.lemmas.List.{append-nil, map-append, reverse-append, length-reverse}
use Rattle.std.proofs.Math.Bool.{and-true, and-false}
use Rattle.language.specs.Tree.{Expression, const, var, two, and, RightSide, any, value}
use Rattle.language.specs.Value.{Place, global, local, bit, with_bit, look_up, value_of, AreValues, written_globals, written_locals}
use Rattle.language.specs.Step.{zeros}
use Rattle.round_rewrite.specs.Table.{literal, has_value, added, raised, each}
use Rattle.round_rewrite.specs.Places.{bits_from}
use Rattle.round_rewrite.specs.Limits.{most_rounds, round_bits}

same_alike : (a b c d : ℕ) → (a ≡ b → c ≡ d) → (c ≡ d → a ≡ b) → eqb a b ≡ eqb c d
same_alike a b c d f g = elim (cases_eq a b) [
  | inl e ↦ ap (eqb a) (sym e) ∙ (eq-eqb a a refl ∙ (sym (eq-eqb c c refl) ∙ ap (eqb c) (f e)))
  | inr ne ↦ ne_eqb a b ne ∙ sym (ne_eqb c d (λ e. ne (g e)))
]

-- a number below 2 as a bit
abbrev pub is_one : ℕ → Bool
is_one zero = false
is_one (suc r) = true

-- the low bit of a number
abbrev pub low : ℕ → Bool
low q = is_one (q % 2)

-- a bit, or its negation
abbrev lit : ℕ → Bool → Bool
lit zero b = not b
lit (suc n) b = b

literal_is : (X L : List Bool) (n : ℕ) (x : Place) → value_of X L (literal n x) ≡ lit n (look_up X L x)
literal_is X L zero x = refl
literal_is X L (suc n) x = refl

-- two numbers are the same if their halves and their low bits are
same_digits : (a b r s : ℕ) → r < 2 → s < 2 → eqb (2 * a + r) (2 * b + s) ≡ (eqb a b && lit r (is_one s))
same_digits a b zero zero hr hs =
    same_alike (2 * a + 0) (2 * b + 0) a b (λ e. omega arith) (λ e. omega arith) ∙ sym (and-true (eqb a b))
same_digits a b zero (suc zero) hr hs =
    ne_eqb (2 * a + 0) (2 * b + 1) (λ e. omega arith) ∙ sym (and-false (eqb a b))
same_digits a b (suc zero) zero hr hs =
    ne_eqb (2 * a + 1) (2 * b + 0) (λ e. omega arith) ∙ sym (and-false (eqb a b))
same_digits a b (suc zero) (suc zero) hr hs =
    same_alike (2 * a + 1) (2 * b + 1) a b (λ e. omega arith) (λ e. omega arith) ∙ sym (and-true (eqb a b))
same_digits a b _ _ hr hs = absurd (omega arith)

same_halves : (k q : ℕ) → eqb k q ≡ (eqb (k / 2) (q / 2) && lit (k % 2) (low q))
same_halves k q =
    let ek : k ≡ 2 * (k / 2) + k % 2 = omega arith in
    let eq : q ≡ 2 * (q / 2) + q % 2 = omega arith in
    ap₂ eqb ek eq ∙ same_digits (k / 2) (q / 2) (k % 2) (q % 2) (omega arith) (omega arith)

-- a number, with 1 added if there is a carry
abbrev plus : ℕ → Bool → ℕ
plus q true = suc q
plus q false = q

parity : (q : ℕ) → (q % 2 ≡ 0) ⊎ (q % 2 ≡ 1)
parity q = elim (cases_eq (q % 2) 0) [
  | inl e ↦ inl e
  | inr ne ↦ inr (omega arith)
]

low_next : (q : ℕ) → low (suc q) ≡ not (low q)
low_next q = elim (parity q) [
  | inl e ↦ ap is_one (let z : suc q % 2 ≡ 1 = omega (arith, e) in z) ∙ sym (ap (λ r. not (is_one r)) e)
  | inr e ↦ ap is_one (let z : suc q % 2 ≡ 0 = omega (arith, e) in z) ∙ sym (ap (λ r. not (is_one r)) e)
]

-- 1 added to a low bit
low_plus : (q : ℕ) (c : Bool) → low (plus q c) ≡ cond (low q) (not c) c
low_plus q true = low_next q ∙ flipped (low q)
  where
    flipped : (x : Bool) → not x ≡ cond x false true
    flipped true = refl
    flipped false = refl
low_plus q false = kept (low q)
  where
    kept : (x : Bool) → x ≡ cond x true false
    kept true = refl
    kept false = refl

-- what is carried on
half_next : (q : ℕ) → suc q / 2 ≡ plus (q / 2) (low q)
half_next q = elim (parity q) [
  | inl e ↦ (let z : suc q / 2 ≡ q / 2 = omega (arith, e) in z) ∙ sym (ap (λ r. plus (q / 2) (is_one r)) e)
  | inr e ↦ (let z : suc q / 2 ≡ suc (q / 2) = omega (arith, e) in z) ∙ sym (ap (λ r. plus (q / 2) (is_one r)) e)
]

half_plus : (q : ℕ) (c : Bool) → plus q c / 2 ≡ plus (q / 2) (low q && c)
half_plus q true = half_next q ∙ sym (ap (plus (q / 2)) (and-true (low q)))
half_plus q false = sym (ap (plus (q / 2)) (and-false (low q)))

-- a number in a given number of bits, the highest first, in front of what follows
abbrev pub in_bits : ℕ → ℕ → List Bool → List Bool
in_bits zero q rest = rest
in_bits (suc m) q rest = in_bits m (q / 2) (low q ∷ rest)

-- the bits of a number, the low bit first
abbrev pub low_first : ℕ → ℕ → List Bool
low_first zero q = []
low_first (suc m) q = low q ∷ low_first m (q / 2)

pub bit_past : (m q : ℕ) (rest : List Bool) (i j : ℕ) → i ≡ m + j → bit (in_bits m q rest) i ≡ bit rest j
bit_past zero q rest i j e = ap (bit rest) (let z : i ≡ j = omega arith in z)
bit_past (suc m) q rest i j e = bit_past m (q / 2) (low q ∷ rest) i (suc j) (omega arith)

pub with_past : (m q : ℕ) (rest : List Bool) (i j : ℕ) (v : Bool) → i ≡ m + j
    → with_bit (in_bits m q rest) i v ≡ in_bits m q (with_bit rest j v)
with_past zero q rest i j v e = ap (λ k. with_bit rest k v) (let z : i ≡ j = omega arith in z)
with_past (suc m) q rest i j v e = with_past m (q / 2) (low q ∷ rest) i (suc j) v (omega arith)

zeros_behind : (k : ℕ) (rest : List Bool) → zeros k ++ (false ∷ rest) ≡ false ∷ (zeros k ++ rest)
zeros_behind zero rest = refl
zeros_behind (suc k) rest = ap (λ z. false ∷ z) (zeros_behind k rest)

-- round 0 has no bit that is 1
pub zero_bits : (m : ℕ) (rest : List Bool) → in_bits m 0 rest ≡ zeros m ++ rest
zero_bits zero rest = refl
zero_bits (suc m) rest = zero_bits m (false ∷ rest) ∙ zeros_behind m rest

-- a given number of bits from a place on are those of the number
abbrev pub HasBits : List Bool → ℕ → ℕ → ℕ → List Bool → Type 0
HasBits X at m q rest = (j : ℕ) → bit X (at + j) ≡ bit (in_bits m q rest) j

module _ (X L : List Bool) (at : ℕ) where
  lowest : (m q : ℕ) (rest : List Bool) → HasBits X at (suc m) q rest → bit X (at + m) ≡ low q
  lowest m q rest h = h m ∙ bit_past m (q / 2) (low q ∷ rest) m 0 (omega arith)

  literal_tells : (m k q : ℕ) (rest : List Bool) → HasBits X at (suc m) q rest
      → value_of X L (literal (k % 2) (global (at + m))) ≡ lit (k % 2) (low q)
  literal_tells m k q rest h = literal_is X L (k % 2) (global (at + m)) ∙ ap (lit (k % 2)) (lowest m q rest h)

  -- the bits tell the number
  pub tells : (m k q : ℕ) (rest : List Bool) → HasBits X at m q rest → k < 2 ^ m → q < 2 ^ m
      → value_of X L (has_value k (bits_from at m)) ≡ eqb k q
  tells zero k q rest h lk lq =
      sym (ap₂ eqb (let z : k ≡ 0 = omega arith in z) (let z : q ≡ 0 = omega arith in z))
  tells (suc zero) k q rest h lk lq =
      let ek : k / 2 ≡ 0 = omega arith in
      let eq : q / 2 ≡ 0 = omega arith in
      literal_tells 0 k q rest h ∙ sym (same_halves k q ∙ ap₂ (λ a b. eqb a b && lit (k % 2) (low q)) ek eq)
  tells (suc (suc m)) k q rest h lk lq =
      ap₂ (λ x y. x && y) (tells (suc m) (k / 2) (q / 2) (low q ∷ rest) h (omega arith) (omega arith))
      (literal_tells (suc m) k q rest h)
      ∙ sym (same_halves k q)

  added_goes : (m q : ℕ) (rest : List Bool) → HasBits X at m q rest → (carry : Expression Place) (c : Bool)
      → value_of X L carry ≡ c
      → AreValues X L (added carry (bits_from at m)) (low_first m (plus q c))
  added_goes zero q rest h carry c e = tt
  added_goes (suc m) q rest h carry c e = (
    low_plus q c ∙ sym (ap₂ (λ x y. cond x (not y) y) (lowest m q rest h) e),
    subst (λ z. AreValues X L (added (two and (var (global (at + m))) carry) (bits_from at m)) (low_first m z)) (sym (half_plus q c))
        (added_goes m (q / 2) (low q ∷ rest) h (two and (var (global (at + m))) carry) (low q && c)
        (ap₂ (λ x y. x && y) (lowest m q rest h) e)),
  )

  raised_goes : (m q : ℕ) (rest : List Bool) → HasBits X at m q rest
      → AreValues X L (raised (bits_from at m)) (low_first m (suc q))
  raised_goes zero q rest h = tt
  raised_goes (suc m) q rest h = (
    low_next q ∙ sym (ap not (lowest m q rest h)),
    subst (λ z. AreValues X L (added (var (global (at + m))) (bits_from at m)) (low_first m z)) (sym (half_next q))
        (added_goes m (q / 2) (low q ∷ rest) h (var (global (at + m))) (low q) (lowest m q rest h)),
  )

-- a list from its end
pub reverse_first : {A : Type 0} (x : A) (xs : List A) → reverse (x ∷ xs) ≡ reverse xs ++ x ∷ []
reverse_first x xs = reverse-append (x ∷ []) xs

pub map-reversed : {A B : Type 0} (f : A → B) (xs : List A) → map f (reverse xs) ≡ reverse (map f xs)
map-reversed f [] = refl
map-reversed f (x ∷ xs) =
    ap (map f) (reverse_first x xs)
    ∙ (map-append f (reverse xs) (x ∷ [])
    ∙ (ap (λ ys. ys ++ f x ∷ []) (map-reversed f xs) ∙ sym (reverse_first (f x) (map f xs))))

-- right sides that are expressions
abbrev pub Certain : List (RightSide Place) → Type 0
Certain [] = Unit {0}
Certain (any ∷ rs) = ⊥
Certain (value e ∷ rs) = Certain rs

certain_both : (rs ss : List (RightSide Place)) → Certain rs → Certain ss → Certain (rs ++ ss)
certain_both [] ss h g = g
certain_both (any ∷ rs) ss h g = absurd h
certain_both (value e ∷ rs) ss h g = certain_both rs ss h g

certain_reversed : (rs : List (RightSide Place)) → Certain rs → Certain (reverse rs)
certain_reversed [] h = tt
certain_reversed (any ∷ rs) h = absurd h
certain_reversed (value e ∷ rs) h =
    subst Certain (sym (reverse_first (value e) rs)) (certain_both (reverse rs) (value e ∷ []) (certain_reversed rs h) tt)

certain_added : (carry : Expression Place) (xs : List Place) → Certain (added carry xs)
certain_added carry [] = tt
certain_added carry (x ∷ xs) = certain_added (two and (var x) carry) xs

certain_raised : (xs : List Place) → Certain (raised xs)
certain_raised [] = tt
certain_raised (x ∷ xs) = certain_added (var x) xs

pub certain_zeros : {W : Type 0} (ws : List W) → Certain (each (value (const false)) ws)
certain_zeros [] = tt
certain_zeros (w ∷ ws) = certain_zeros ws

module _ (X L : List Bool) where
  -- expressions have one list of values
  pub one_choice : (rs : List (RightSide Place)) (vs ws : List Bool) → Certain rs → AreValues X L rs vs → AreValues X L rs ws
      → vs ≡ ws
  one_choice [] [] [] h a b = refl
  one_choice [] (v ∷ vs) ws h a b = absurd a
  one_choice (any ∷ rs) vs ws h a b = absurd h
  one_choice (value e ∷ rs) [] ws h a b = absurd a
  one_choice (value e ∷ rs) (v ∷ vs) (w ∷ ws) h a b = ap₂ (λ x xs. x ∷ xs) (a.0 ∙ sym b.0) (one_choice rs vs ws h a.1 b.1)
  one_choice _ _ _ h a b = absurd b

  are_both : (rs ss : List (RightSide Place)) (vs ws : List Bool) → AreValues X L rs vs → AreValues X L ss ws
      → AreValues X L (rs ++ ss) (vs ++ ws)
  are_both [] ss [] ws a b = b
  are_both (r ∷ rs) ss (v ∷ vs) ws a b = (a.0, are_both rs ss vs ws a.1 b)
  are_both _ ss _ ws a b = absurd a

  are_reversed : (rs : List (RightSide Place)) (vs : List Bool) → AreValues X L rs vs → AreValues X L (reverse rs) (reverse vs)
  are_reversed [] [] a = tt
  are_reversed (r ∷ rs) (v ∷ vs) a =
      subst (λ z. AreValues X L z (reverse (v ∷ vs))) (sym (reverse_first r rs))
      (subst (λ z. AreValues X L (reverse rs ++ r ∷ []) z) (sym (reverse_first v vs))
      (are_both (reverse rs) (r ∷ []) (reverse vs) (v ∷ []) (are_reversed rs vs a.1) (a.0, tt)))
  are_reversed _ _ a = absurd a

  -- the bits rise to those of the next number
  pub raise_goes : (at m q : ℕ) (rest : List Bool) → HasBits X at m q rest
      → AreValues X L (reverse (raised (bits_from at m))) (reverse (low_first m (suc q)))
  raise_goes at m q rest h = are_reversed (raised (bits_from at m)) (low_first m (suc q)) (raised_goes X L at m q rest h)

  -- and to no others
  pub raise_only : (at m q : ℕ) (rest : List Bool) → HasBits X at m q rest → (vs : List Bool)
      → AreValues X L (reverse (raised (bits_from at m))) vs
      → vs ≡ reverse (low_first m (suc q))
  raise_only at m q rest h vs a =
      one_choice (reverse (raised (bits_from at m))) vs (reverse (low_first m (suc q)))
      (certain_reversed (raised (bits_from at m)) (certain_raised (bits_from at m))) a (raise_goes at m q rest h)

  pub zeros_are : {W : Type 0} (ws : List W) → AreValues X L (each (value (const false)) ws) (zeros (length ws))
  zeros_are [] = tt
  zeros_are (w ∷ ws) = (refl, zeros_are ws)

-- writes to one list of targets after another
pub written_both : (xs ys : List Place) (vs ws X : List Bool) → length xs ≡ length vs
    → written_globals (xs ++ ys) (vs ++ ws) X ≡ written_globals ys ws (written_globals xs vs X)
written_both [] ys [] ws X e = refl
written_both (global n ∷ xs) ys (v ∷ vs) ws X e = written_both xs ys vs ws (with_bit X n v) (omega arith)
written_both (local n ∷ xs) ys (v ∷ vs) ws X e = written_both xs ys vs ws X (omega arith)
written_both _ ys _ ws X e = absurd (omega arith)

-- targets that are globals
abbrev pub Outside : List Place → Type 0
Outside [] = Unit {0}
Outside (global n ∷ xs) = Outside xs
Outside (local n ∷ xs) = ⊥

pub outside_both : (xs ys : List Place) → Outside xs → Outside ys → Outside (xs ++ ys)
outside_both [] ys h g = g
outside_both (global n ∷ xs) ys h g = outside_both xs ys h g
outside_both (local n ∷ xs) ys h g = absurd h

pub outside_bits : (at m : ℕ) → Outside (reverse (bits_from at m))
outside_bits at zero = tt
outside_bits at (suc m) =
    subst Outside (sym (reverse_first (global (at + m)) (bits_from at m)))
    (outside_both (reverse (bits_from at m)) (global (at + m) ∷ []) (outside_bits at m) tt)

-- a frame keeps its places if globals are written
pub frame_kept : (xs : List Place) (vs L : List Bool) → Outside xs → written_locals xs vs L ≡ L
frame_kept (global n ∷ xs) (v ∷ vs) L h = frame_kept xs vs L h
frame_kept (local n ∷ xs) (v ∷ vs) L h = absurd h
frame_kept _ _ L h = refl

length-bits_from : (at m : ℕ) → length (bits_from at m) ≡ m
length-bits_from at zero = refl
length-bits_from at (suc m) = ap suc (length-bits_from at m)

length-low_first : (m p : ℕ) → length (low_first m p) ≡ m
length-low_first zero p = refl
length-low_first (suc m) p = ap suc (length-low_first m (p / 2))

pub length-bits : (at m : ℕ) → length (reverse (bits_from at m)) ≡ m
length-bits at m = length-reverse (bits_from at m) ∙ length-bits_from at m

pub length-reversed_low : (m p : ℕ) → length (reverse (low_first m p)) ≡ m
length-reversed_low m p = length-reverse (low_first m p) ∙ length-low_first m p

module _ (A : List Bool) (at : ℕ) (is : at ≡ length A) where
  with_behind : (m q : ℕ) (rest : List Bool) (j : ℕ) (v : Bool)
      → with_bit (A ++ in_bits m q rest) (at + (m + j)) v ≡ A ++ in_bits m q (with_bit rest j v)
  with_behind m q rest j v =
      behind A (at + (m + j)) (omega arith) ∙ ap (λ z. A ++ z) (with_past m q rest (m + j) j v refl)
    where
      behind : (B : List Bool) (i : ℕ) → i ≡ length B + (m + j)
          → with_bit (B ++ in_bits m q rest) i v ≡ B ++ with_bit (in_bits m q rest) (m + j) v
      behind [] i e = ap (λ k. with_bit (in_bits m q rest) k v) (let z : i ≡ m + j = omega arith in z)
      behind (x ∷ B) zero e = absurd (omega arith)
      behind (x ∷ B) (suc i) e = ap (λ z. x ∷ z) (behind B i (omega arith))

  -- the bits of another number are written over them
  pub written : (m p q : ℕ) (rest : List Bool)
      → written_globals (reverse (bits_from at m)) (reverse (low_first m p)) (A ++ in_bits m q rest) ≡ A ++ in_bits m p rest
  written zero p q rest = refl
  written (suc m) p q rest =
      let X : List Bool = A ++ in_bits m (q / 2) (low q ∷ rest) in
      let here : at + m ≡ at + (m + 0) = omega arith in
      ap₂ (λ ts vs. written_globals ts vs X) (reverse_first (global (at + m)) (bits_from at m))
      (reverse_first (low p) (low_first m (p / 2)))
      ∙ (written_both (reverse (bits_from at m)) (global (at + m) ∷ []) (reverse (low_first m (p / 2))) (low p ∷ []) X
      (length-bits at m ∙ sym (length-reversed_low m (p / 2)))
      ∙ (ap (λ z. with_bit z (at + m) (low p)) (written m (p / 2) (q / 2) (low q ∷ rest))
      ∙ (ap (λ k. with_bit (A ++ in_bits m (p / 2) (low q ∷ rest)) k (low p)) here
      ∙ with_behind m (p / 2) (low q ∷ rest) 0 (low p))))

-- the bits of round 0, the highest first, are all 0
pub zeros_first : (m : ℕ) → reverse (low_first m 0) ≡ zeros m
zeros_first zero = refl
zeros_first (suc m) =
    reverse_first false (low_first m 0)
    ∙ (ap (λ z. z ++ false ∷ []) (zeros_first m) ∙ (zeros_behind m [] ∙ ap (λ z. false ∷ z) (append-nil (zeros m))))

-- the bits suffice for the last round
pub bits_suffice : (last : ℕ) → last < most_rounds → last < 2 ^ round_bits last
bits_suffice (suc (suc (suc (suc (suc (suc (suc (suc last)))))))) h = absurd (omega arith)
bits_suffice _ h = omega arith

-- a round has two bits or three
pub bits_few : (last : ℕ) → (2 ≤ round_bits last) × (round_bits last ≤ 3)
bits_few last = go (nat_lt last 4)
  where
    go : (c : Bool) → (2 ≤ cond c 2 3) × (cond c 2 3 ≤ 3)
    go true = (omega arith, omega arith)
    go false = (omega arith, omega arith)
