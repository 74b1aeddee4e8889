-- How the globals of the rewritten program lie: copies round by round, saved guesses, the round's bits, stop, bad.
use Rattle.std.proofs.Common.{◌≡◌, ℕ, zero, suc, ◌+◌, ◌-◌, ◌*◌, ◌<◌, ◌≤◌, get_or, set, Bool, true, false, List, [], ◌∷◌}
use Rattle.std.proofs.Common.{◌++◌, length, reverse, refl, sym, ◌∙◌, ap, arith, append_assoc, length-append}
use Rattle.std.proofs.lemmas.List.{get_or_append_left, get_or-append-add, set-append_left, set-append_right, set-get_or}
use Rattle.language.specs.Value.{bit, with_bit, written_globals}
use Rattle.round_rewrite.specs.Limits.{round_bits}
use Rattle.round_rewrite.specs.Places.{bits_at, bits_from, stop_at, bad_at}
use Rattle.round_rewrite.proofs.RoundBitLemmas.{in_bits, low_first, HasBits, bit_past, with_past, written}

pub bit_right : (a b : List Bool) (i j : ℕ) → i ≡ length a + j → bit (a ++ b) i ≡ bit b j
bit_right a b i j e = ap (bit (a ++ b)) e ∙ get_or-append-add a b j false

pub with_right : (a b : List Bool) (i j : ℕ) (v : Bool) → i ≡ length a + j → with_bit (a ++ b) i v ≡ a ++ with_bit b j v
with_right a b i j v e =
    set-append_right a b (length a) i v refl (omega arith) ∙ ap (λ k. a ++ with_bit b k v) (let z : i - length a ≡ j = omega arith in z)

-- rows
abbrev pub flat : List (List Bool) → List Bool
flat [] = []
flat (r ∷ rs) = r ++ flat rs

abbrev pub Long : ℕ → List (List Bool) → Type 0
Long n [] = Unit {0}
Long n (r ∷ rs) = (length r ≡ n) × Long n rs

-- there is this number of rows, and each has this length
abbrev pub AreRows : ℕ → ℕ → List (List Bool) → Type 0
AreRows n count G = Long n G × (length G ≡ count)

abbrev pub row : List (List Bool) → ℕ → List Bool
row rows k = get_or rows k []

abbrev pub with_row : List (List Bool) → ℕ → List Bool → List (List Bool)
with_row = set

pub length-flat : (n : ℕ) (C : List (List Bool)) → Long n C → length (flat C) ≡ length C * n
length-flat n [] h = omega arith
length-flat n (r ∷ C) h = length-append r (flat C)
    ∙ (let e : length (flat C) ≡ length C * n = length-flat n C h.1 in let e' : length r ≡ n = h.0 in omega arith)

pub row_bit : (n : ℕ) (C : List (List Bool)) (X : List Bool) (k i : ℕ) → Long n C → k < length C → i < n
    → bit (flat C ++ X) (k * n + i) ≡ bit (row C k) i
row_bit n [] X k i long h h' = absurd (omega arith)
row_bit n (r ∷ C) X zero i long h h' =
    let e : length r ≡ n = long.0 in
    let at : zero * n + i ≡ i = omega arith in
    ap (bit ((r ++ flat C) ++ X)) at
    ∙ (ap (λ z. bit z i) (append_assoc r (flat C) X) ∙ get_or_append_left r (flat C ++ X) false i (omega arith))
row_bit n (r ∷ C) X (suc k) i long h h' =
    let e : length r ≡ n = long.0 in
    let at : suc k * n + i ≡ length r + (k * n + i) = omega arith in
    ap (λ z. bit z (suc k * n + i)) (append_assoc r (flat C) X)
    ∙ (bit_right r (flat C ++ X) (suc k * n + i) (k * n + i) at ∙ row_bit n C X k i long.1 (omega arith) h')

pub row_with : (n : ℕ) (C : List (List Bool)) (X : List Bool) (k i : ℕ) (v : Bool) → Long n C → k < length C → i < n
    → with_bit (flat C ++ X) (k * n + i) v ≡ flat (with_row C k (with_bit (row C k) i v)) ++ X
row_with n [] X k i v long h h' = absurd (omega arith)
row_with n (r ∷ C) X zero i v long h h' =
    let e : length r ≡ n = long.0 in
    let at : zero * n + i ≡ i = omega arith in
    ap (λ j. with_bit ((r ++ flat C) ++ X) j v) at
    ∙ (ap (λ z. with_bit z i v) (append_assoc r (flat C) X)
    ∙ (set-append_left r (flat C ++ X) i v (omega arith) ∙ sym (append_assoc (with_bit r i v) (flat C) X)))
row_with n (r ∷ C) X (suc k) i v long h h' =
    let e : length r ≡ n = long.0 in
    let at : suc k * n + i ≡ length r + (k * n + i) = omega arith in
    ap (λ z. with_bit z (suc k * n + i) v) (append_assoc r (flat C) X)
    ∙ (with_right r (flat C ++ X) (suc k * n + i) (k * n + i) v at
    ∙ (ap (λ z. r ++ z) (row_with n C X k i v long.1 (omega arith) h')
    ∙ sym (append_assoc r (flat (with_row C k (with_bit (row C k) i v))) X)))

pub with_middle : (pre : List (List Bool)) (g h : List Bool) (post : List (List Bool))
    → with_row (pre ++ g ∷ post) (length pre) h ≡ pre ++ h ∷ post
with_middle [] g h post = refl
with_middle (r ∷ pre) g h post = ap (λ z. r ∷ z) (with_middle pre g h post)

pub with_own : (C : List (List Bool)) (k i : ℕ) → with_row C k (with_bit (row C k) i (bit (row C k) i)) ≡ C
with_own C k i = ap (with_row C k) (set-get_or (row C k) i false) ∙ set-get_or C k []

pub long-with_row : (n : ℕ) (C : List (List Bool)) (k : ℕ) (v : List Bool) → Long n C → length v ≡ n → Long n (with_row C k v)
long-with_row n [] k v long e = tt
long-with_row n (r ∷ C) zero v long e = (e, long.1)
long-with_row n (r ∷ C) (suc k) v long e = (long.0, long-with_row n C k v long.1 e)

pub long_row : (n : ℕ) (C : List (List Bool)) (k : ℕ) → Long n C → k < length C → length (row C k) ≡ n
long_row n [] k long h = absurd (omega arith)
long_row n (r ∷ C) zero long h = long.0
long_row n (r ∷ C) (suc k) long h = long_row n C k long.1 (omega arith)

pub long-append : (n : ℕ) (a b : List (List Bool)) → Long n a → Long n b → Long n (a ++ b)
long-append n [] b ha hb = hb
long-append n (r ∷ a) b ha hb = (ha.0, long-append n a b ha.1 hb)

-- the bits of a round, if this one is the last, then stop and bad
abbrev pub bits_of : ℕ → ℕ → Bool → Bool → List Bool
bits_of last q s b = in_bits (round_bits last) q (s ∷ b ∷ [])

abbrev pub lay : List (List Bool) → List (List Bool) → List Bool → List Bool
lay C S bits = flat C ++ (flat S ++ bits)

-- the rows have their numbers and lengths
pub record Shape (n last : ℕ) (C S : List (List Bool)) : Type 0 where
  pub copies : Long n C
  pub saved : Long n S
  pub rounds : length C ≡ suc last
  pub guesses : length S ≡ last

-- the globals in a round, if stop is 0: the rows and the saved guesses, the round, and bad
pub record Moment (n last : ℕ) : Type 0 where
  pub C : List (List Bool)
  pub S : List (List Bool)
  pub q : ℕ
  pub b : Bool
  pub shape : Shape n last C S
  pub within : q ≤ last

abbrev pub globals_at : {n last : ℕ} (now : Moment n last) → List Bool
globals_at {n} {last} now = lay now.C now.S (bits_of last now.q false now.b)

-- the same globals, except that the round's row is h
abbrev pub turned : {n last : ℕ} (now : Moment n last) → List Bool → List Bool
turned {n} {last} now h = lay (with_row now.C now.q h) now.S (bits_of last now.q false now.b)

pub unturned : {n last : ℕ} (now : Moment n last) → turned now (row now.C now.q) ≡ globals_at now
unturned {n} {last} now = ap (λ z. lay z now.S (bits_of last now.q false now.b)) (set-get_or now.C now.q [])

pub row_long : {n last : ℕ} (now : Moment n last) → length (row now.C now.q) ≡ n
row_long {n} now =
    long_row n now.C now.q now.shape.copies (let e : length now.C ≡ suc _ = now.shape.rounds in omega (arith, now.within))

pub bits_index : (n last : ℕ) (C S : List (List Bool)) (j : ℕ) → Shape n last C S
    → bits_at n last + j ≡ length (flat C) + (length (flat S) + j)
bits_index n last C S j h =
    let a : length (flat C) ≡ length C * n = length-flat n C h.copies in
    let b : length (flat S) ≡ length S * n = length-flat n S h.saved in
    let c : length C * n ≡ suc last * n = ap (λ z. z * n) h.rounds in
    let d : length S * n ≡ last * n = ap (λ z. z * n) h.guesses in
    omega arith

pub bits_bit : (n last : ℕ) (C S : List (List Bool)) (bits : List Bool) (j : ℕ) → Shape n last C S
    → bit (lay C S bits) (bits_at n last + j) ≡ bit bits j
bits_bit n last C S bits j h =
    bit_right (flat C) (flat S ++ bits) (bits_at n last + j) (length (flat S) + j) (bits_index n last C S j h)
    ∙ bit_right (flat S) bits (length (flat S) + j) j refl

pub bits_with : (n last : ℕ) (C S : List (List Bool)) (bits : List Bool) (j : ℕ) (v : Bool) → Shape n last C S
    → with_bit (lay C S bits) (bits_at n last + j) v ≡ lay C S (with_bit bits j v)
bits_with n last C S bits j v h =
    with_right (flat C) (flat S ++ bits) (bits_at n last + j) (length (flat S) + j) v (bits_index n last C S j h)
    ∙ ap (λ z. flat C ++ z) (with_right (flat S) bits (length (flat S) + j) j v refl)

module _ (n last : ℕ) (C S : List (List Bool)) (shape : Shape n last C S) where
  -- the bits come after the rows and the guesses
  pub has_bits : (q : ℕ) (s b : Bool) → HasBits (lay C S (bits_of last q s b)) (bits_at n last) (round_bits last) q (s ∷ b ∷ [])
  has_bits q s b j = bits_bit n last C S (bits_of last q s b) j shape

  pub stop_bit : (q : ℕ) (s b : Bool) → bit (lay C S (bits_of last q s b)) (stop_at n last) ≡ s
  stop_bit q s b =
      bits_bit n last C S (bits_of last q s b) (round_bits last) shape
      ∙ bit_past (round_bits last) q (s ∷ b ∷ []) (round_bits last) 0 (omega arith)

  pub bad_bit : (q : ℕ) (s b : Bool) → bit (lay C S (bits_of last q s b)) (bad_at n last) ≡ b
  bad_bit q s b =
      bits_bit n last C S (bits_of last q s b) (round_bits last + 1) shape
      ∙ bit_past (round_bits last) q (s ∷ b ∷ []) (round_bits last + 1) 1 refl

  pub stop_with : (q : ℕ) (s b v : Bool) → with_bit (lay C S (bits_of last q s b)) (stop_at n last) v ≡ lay C S (bits_of last q v b)
  stop_with q s b v =
      bits_with n last C S (bits_of last q s b) (round_bits last) v shape
      ∙ ap (lay C S) (with_past (round_bits last) q (s ∷ b ∷ []) (round_bits last) 0 v (omega arith))

  pub bad_with : (q : ℕ) (s b v : Bool) → with_bit (lay C S (bits_of last q s b)) (bad_at n last) v ≡ lay C S (bits_of last q s v)
  bad_with q s b v =
      bits_with n last C S (bits_of last q s b) (round_bits last + 1) v shape
      ∙ ap (lay C S) (with_past (round_bits last) q (s ∷ b ∷ []) (round_bits last + 1) 1 v refl)

  -- a failing assert sets `bad`, then `stop`
  pub both_with : (q : ℕ) (b : Bool)
      → with_bit (with_bit (lay C S (bits_of last q false b)) (bad_at n last) true) (stop_at n last) true
      ≡ lay C S (bits_of last q true true)
  both_with q b = ap (λ z. with_bit z (stop_at n last) true) (bad_with q false b true) ∙ stop_with q false true true

  -- the bits of another round are written over them
  pub bits_written : (p q : ℕ) (s b : Bool)
      → written_globals (reverse (bits_from (bits_at n last) (round_bits last))) (reverse (low_first (round_bits last) p))
      (lay C S (bits_of last q s b))
      ≡ lay C S (bits_of last p s b)
  bits_written p q s b =
      let m : ℕ = round_bits last in
      let index : bits_at n last + 0 ≡ length (flat C) + (length (flat S) + 0) = bits_index n last C S 0 shape in
      let sum : length (flat C ++ flat S) ≡ length (flat C) + length (flat S) = length-append (flat C) (flat S) in
      ap (written_globals (reverse (bits_from (bits_at n last) m)) (reverse (low_first m p)))
      (sym (append_assoc (flat C) (flat S) (bits_of last q s b)))
      ∙ (written (flat C ++ flat S) (bits_at n last) (omega arith) m p q (s ∷ b ∷ [])
      ∙ append_assoc (flat C) (flat S) (bits_of last p s b))
