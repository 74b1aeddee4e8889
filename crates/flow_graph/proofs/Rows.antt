-- Outputs of truth tables, bit by bit.
use Rattle.std.proofs.Common.{◌≡◌, ◌<◌, ◌≤◌, ℕ, zero, suc, ◌+◌, ◌-◌, ◌*◌, ◌/◌, ◌%◌, ◌^◌, min, max}
use Rattle.std.proofs.Common.{◌==◌, cond, not, ◌&&◌, ◌||◌, Bool, true, false, List, [], ◌∷◌, ◌++◌, length}
use Rattle.std.proofs.Common.{get_or}
use Rattle.std.proofs.Common.{map, take, set, w64, inl, inr, refl, sym, ◌∙◌, ap, subst, arith, append_assoc}
use Rattle.std.specs.Int.{bit_at}
use Rattle.std.specs.Int.RustNames.{bit_and, bit_or, bit_xor}
use Rattle.std.proofs.lemmas.Bool.{eqb-true, eqb-false, cases_eq, false≢true}
use Rattle.std.proofs.lemmas.Nat.Bits.{bit_at_lowest, bit_at-suc, bit_at-lt, bit_at_and, bit_at_or, bit_at_xor, bit_at_not}
use Rattle.language.specs.Tree.{Operator, xor, Expression, negation, two}
use Rattle.language.specs.Value.{operate}
use Rattle.language.proofs.TestLemmas.{at_test}
use Rattle.std.proofs.Math.Nat.{mul_assoc, mul-add}
use Rattle.std.proofs.Math.Pow.{pow_mono}
use Rattle.std.proofs.lemmas.List.{length-map, get_or-take, get_or-set_same, get_or-set_other}
use Rattle.flow_graph.proofs.Stacks.{worth_small, coded_small}
use Rattle.flow_graph.specs.Bits.{bit_of, worth_of, coded}
use Rattle.flow_graph.specs.Located.{worth}
use Rattle.flow_graph.specs.Tables.{slot, is_input, output, HaveRow, ReadsBit, Tabulates, AreBits, Widens}
use Rattle.flow_graph.specs.Tables.{most_inputs, most_rows, word_rows}
use Rattle.resolved.specs.Limits.{most_places}

-- ---- operators on words

-- what holds for 0 and 1 holds for two bits
pub two_bits : (P : ℕ → ℕ → Type 0) → P 0 0 → P 0 1 → P 1 0 → P 1 1 → (x y : ℕ) → x < 2 → y < 2 → P x y
two_bits P a b c d zero zero h k = a
two_bits P a b c d zero (suc zero) h k = b
two_bits P a b c d (suc zero) zero h k = c
two_bits P a b c d (suc zero) (suc zero) h k = d
two_bits P a b c d (suc (suc x)) y h k = absurd (omega (arith, h))
two_bits P a b c d x (suc (suc y)) h k = absurd (omega (arith, k))

pub bits_and : (a b j : ℕ) → bit_of (bit_and a b) j ≡ (bit_of a j && bit_of b j)
bits_and a b j =
    ap (λ n. n == 1) (bit_at_and a b j)
    ∙ two_bits (λ x y. (min x y == 1) ≡ ((x == 1) && (y == 1))) refl refl refl refl (bit_at a j) (bit_at b j) (bit_at-lt a j)
    (bit_at-lt b j)

pub bits_or : (a b j : ℕ) → bit_of (bit_or a b) j ≡ (bit_of a j || bit_of b j)
bits_or a b j =
    ap (λ n. n == 1) (bit_at_or a b j)
    ∙ two_bits (λ x y. (max x y == 1) ≡ ((x == 1) || (y == 1))) refl refl refl refl (bit_at a j) (bit_at b j) (bit_at-lt a j)
    (bit_at-lt b j)

pub bits_xor : (a b j : ℕ) → bit_of (bit_xor a b) j ≡ cond (bit_of a j) (not (bit_of b j)) (bit_of b j)
bits_xor a b j =
    ap (λ n. n == 1) (bit_at_xor a b j)
    ∙ two_bits (λ x y. ((x + y) % 2 == 1) ≡ cond (x == 1) (not (y == 1)) (y == 1)) refl refl refl refl (bit_at a j) (bit_at b j)
    (bit_at-lt a j) (bit_at-lt b j)

pub bits_not : (a j : ℕ) → a < 2 ^ 64 → j < word_rows → bit_of (18446744073709551615 - a) j ≡ not (bit_of a j)
bits_not a j h k =
    ap (λ n. n == 1) (bit_at_not w64 a j h k)
    ∙ two_bits (λ x y. (1 - x == 1) ≡ not (x == 1)) refl refl refl refl (bit_at a j) 0 (bit_at-lt a j) (omega arith)

pub turned : (a b : Bool) → cond (not a) (not b) b ≡ cond a b (not b)
turned true b = refl
turned false b = refl

-- the words below n are the operator on those of the operands, in each of their rows
abbrev pub AreCombined : Operator → List ℕ → List ℕ → List ℕ → ℕ → Type 0
AreCombined o left right words n =
    (k : ℕ) → k < n → (j : ℕ) → j < word_rows → bit_of (get_or words k 0) j ≡ operate o (bit_of (get_or left k 0) j)
    (bit_of (get_or right k 0) j)

pub combined_next : (o : Operator) (left right words : List ℕ) (n w : ℕ) → n < length words
    → AreCombined o left right words n →
    ((j : ℕ) → j < word_rows → bit_of w j ≡ operate o (bit_of (get_or left n 0) j) (bit_of (get_or right n 0) j))
    → AreCombined o left right (set words n w) (n + 1)
combined_next o left right words n w inside so_far here k less j row = elim (cases_eq k n) [
  | inl same ↦
      ap (λ i. bit_of (get_or (set words n w) i 0) j) same ∙ ap (λ v. bit_of v j)
      (get_or-set_same words n w 0 inside) ∙ here j row
      ∙ ap (λ i. operate o (bit_of (get_or left i 0) j) (bit_of (get_or right i 0) j)) (sym same)
  | inr apart ↦
      ap (λ v. bit_of v j) (get_or-set_other words n k w 0 apart) ∙ so_far k (omega (arith, less, apart)) j row
]

pub combined_rows : (o : Operator) (left right words : List ℕ) → AreCombined o left right words 16 → (j : ℕ)
    → j < most_rows →
    output words j ≡ operate o (output left j) (output right j)
combined_rows o left right words all j less = all (j / word_rows) (omega (arith, less)) (j % word_rows) (omega arith)

-- ---- the outputs of one input

-- each number below n passes the test
abbrev pub all_below : ℕ → (ℕ → Bool) → Bool
all_below zero test = true
all_below (suc n) test = cond (test n) (all_below n test) false

below : (n : ℕ) (test : ℕ → Bool) → all_below n test ≡ true → (j : ℕ) → j < n → test j ≡ true
below zero test h j less = absurd (omega (arith, less))
below (suc n) test h j less =
    at_test (λ b. cond b (all_below n test) false ≡ true → test j ≡ true) (test n)
    (λ is rest. elim (cases_eq j n) [
      | inl e ↦ ap test e ∙ is
      | inr apart ↦ below n test rest j (omega (arith, less, apart))
    ])
    (λ is none. absurd (false≢true none)) h

-- the same value
abbrev pub same : Bool → Bool → Bool
same true b = b
same false b = not b

same_is : (a b : Bool) → same a b ≡ true → a ≡ b
same_is true false h = absurd (false≢true h)
same_is false true h = absurd (false≢true h)
same_is _ _ h = refl

pub rows_of_slot : (words : List ℕ) (s : ℕ) → all_below most_rows (λ j. same (output words j) (bit_of j s)) ≡ true
    → (j : ℕ) →
    j < most_rows → output words j ≡ bit_of j s
rows_of_slot words s h j less = same_is (output words j) (bit_of j s)
    (below most_rows (λ k. same (output words k) (bit_of k s)) h j less)

-- ---- inputs

pub slot_most : (b : ℕ) (xs : List ℕ) → slot b xs ≤ length xs
slot_most b [] = omega arith
slot_most b (x ∷ xs) =
    at_test (λ c. cond c 0 (suc (slot b xs)) ≤ suc (length xs)) (b == x) (λ e. omega arith)
    (λ e. let h = slot_most b xs in omega (arith, h))

pub slot_inside : (b : ℕ) (xs : List ℕ) → slot b xs < length xs → is_input b xs ≡ true
slot_inside b [] h = absurd (omega (arith, h))
slot_inside b (x ∷ xs) h =
    at_test (λ c. cond c 0 (suc (slot b xs)) < suc (length xs) → cond c true (is_input b xs) ≡ true) (b == x) (λ e k. refl)
    (λ e k. slot_inside b xs (omega (arith, k))) h

pub slot_outside : (b : ℕ) (xs : List ℕ) → length xs ≤ slot b xs → is_input b xs ≡ false
slot_outside b [] h = refl
slot_outside b (x ∷ xs) h =
    at_test (λ c. suc (length xs) ≤ cond c 0 (suc (slot b xs)) → cond c true (is_input b xs) ≡ false) (b == x)
    (λ e k. absurd (omega (arith, k))) (λ e k. slot_outside b xs (omega (arith, k))) h

-- inputs after others change no slot of these
pub slot_kept : (b : ℕ) (xs ys : List ℕ) → is_input b xs ≡ true
    → (slot b (xs ++ ys) ≡ slot b xs) × (is_input b (xs ++ ys) ≡ true)
slot_kept b [] ys h = absurd (false≢true h)
slot_kept b (x ∷ xs) ys h =
    at_test
    (λ c. cond c true (is_input b xs) ≡ true
    → (cond c 0 (suc (slot b (xs ++ ys))) ≡ cond c 0 (suc (slot b xs))) × (cond c true (is_input b (xs ++ ys)) ≡ true))
    (b == x) (λ e k. (refl, refl)) (λ e k. let r = slot_kept b xs ys k in (ap suc r.0, r.1)) h

pub slot_last : (b : ℕ) (xs : List ℕ) → (slot b (xs ++ (b ∷ [])) ≡ slot b xs) × (is_input b (xs ++ (b ∷ [])) ≡ true)
slot_last b [] =
    at_test (λ c. (◌≡◌ {A = ℕ} (cond c 0 1) 0) × (cond c true false ≡ true)) (b == b) (λ e. (refl, refl))
    (λ e. absurd (eqb-false b b e refl))
slot_last b (x ∷ xs) =
    at_test
    (λ c. (cond c 0 (suc (slot b (xs ++ (b ∷ [])))) ≡ cond c 0 (suc (slot b xs))) × (cond c true (is_input b (xs ++ (b ∷ []))) ≡ true))
    (b == x) (λ e. (refl, refl)) (λ e. let r = slot_last b xs in (ap suc r.0, r.1))

-- a read of the bit in this slot
pub reads_slot : (b s : ℕ) (words : List ℕ) (xs : List ℕ) → slot b xs ≡ s → is_input b xs ≡ true →
    ((j : ℕ) → j < most_rows → output words j ≡ bit_of j s) → ReadsBit xs words b
reads_slot b s words xs at there right f j less have = right j less ∙ ap (bit_of j) (sym at) ∙ sym (have b there)

pub bits_pushed : (b : ℕ) (xs : List ℕ) → b < most_places → AreBits xs → AreBits (xs ++ (b ∷ []))
bits_pushed b [] h k = (h, tt)
bits_pushed b (x ∷ xs) h k = (k.0, bits_pushed b xs h k.1)

-- a bit is a place
pub bit_inside : (xs : List ℕ) (i : ℕ) → AreBits xs → i < length xs → get_or xs i 0 < most_places
bit_inside [] i bits within = absurd (omega (arith, within))
bit_inside (x ∷ xs) zero bits within = bits.0
bit_inside (x ∷ xs) (suc i) bits within = bit_inside xs i bits.1 (omega (arith, within))

pub widens_more : (xs ys zs : List ℕ) → Widens xs ys → Widens ys zs → Widens xs zs
widens_more xs ys zs (more, is) (others, are) = (more ++ others, are ∙ ap (λ l. l ++ others) is ∙ append_assoc xs more others)

-- ---- expressions

-- the words have this output in each row
pub constant : (words : List ℕ) (c : Bool) → all_below most_rows (λ j. same (output words j) c) ≡ true → (j : ℕ)
    → j < most_rows
    → output words j ≡ c
constant words c h j less = same_is (output words j) c (below most_rows (λ k. same (output words k) c) h j less)

-- if the left operand is the same in each row, and decides, so is the whole
pub decided_rows : (ones l w : List ℕ) (o : Operator) (a c : Bool) → all_below most_rows (λ j. same (output ones j) a) ≡ true
    → all_below most_rows (λ j. same (output w j) c) ≡ true → l ≡ ones → ((b : Bool) → c ≡ operate o a b)
    → (j : ℕ) (right : Bool) → j < most_rows → output w j ≡ operate o (output l j) right
decided_rows ones l w o a c all whole is decides j right less =
    constant w c whole j less ∙ decides right
    ∙ ap (λ x. operate o x right) (sym (constant ones a all j less) ∙ ap (λ xs. output xs j) (sym is))

-- the values have the row of the inputs without those after them
have_first : (xs ys : List ℕ) (j : ℕ) (f : ℕ → Bool) → HaveRow (xs ++ ys) j f → HaveRow xs j f
have_first xs ys j f have b h = let kept = slot_kept b xs ys h in have b kept.1 ∙ ap (bit_of j) kept.0

module _ (known : List ℕ) (row : ℕ) where
  -- what is not differs from 1
  pub complemented : (xs w ones v : List ℕ) (e : Expression ℕ) → ((j : ℕ) → j < most_rows → output ones j ≡ true) →
      ((j : ℕ) → j < most_rows → output v j ≡ operate xor (output w j) (output ones j)) → Tabulates known row xs w e
      → Tabulates known row xs v (negation e)
  complemented xs w ones v e one turns t f j less k h =
      turns j less ∙ ap (operate xor (output w j)) (one j less)
      ∙ at_test (λ b. operate xor b true ≡ not b) (output w j) (λ e. refl) (λ e. refl) ∙ ap not (t f j less k h)

  pub operated : (xs ys l r w : List ℕ) (o : Operator) (a b : Expression ℕ) → Widens xs ys → Tabulates known row xs l a
      → Tabulates known row ys r b
      → ((j : ℕ) → j < most_rows → output w j ≡ operate o (output l j) (output r j)) → Tabulates known row ys w (two o a b)
  operated xs ys l r w o a b more s t right f j less k h =
      right j less
      ∙ ap (λ x. operate o x (output r j)) (s f j less k (have_first xs more.0 j f (subst (λ zs. HaveRow zs j f) more.1 h)))
      ∙ ap (operate o (worth f a)) (t f j less k h)

  -- an operator that the left operand decides
  pub decided_left : (xs l w : List ℕ) (o : Operator) (a b : Expression ℕ) → Tabulates known row xs l a
      → ((j : ℕ) (right : Bool) → j < most_rows → output w j ≡ operate o (output l j) right)
      → Tabulates known row xs w (two o a b)
  decided_left xs l w o a b s decides f j less k h =
      decides j (worth f b) less ∙ ap (λ x. operate o x (worth f b)) (s f j less k h)

-- ---- rows

-- bit 0 of a row is its first value, and the others are those of the rest
pub first_bit : (b : Bool) (n : ℕ) → bit_of (worth_of b + 2 * n) 0 ≡ b
first_bit b n =
    ap (λ k. k == 1) (bit_at_lowest (worth_of b + 2 * n)
    ∙ (let z : (worth_of b + 2 * n) % 2 ≡ worth_of b = omega (arith, worth_small b) in z))
    ∙ at_test (λ c. (worth_of c == 1) ≡ c) b (λ e. refl) (λ e. refl)

pub later_bit : (b : Bool) (n i : ℕ) → bit_of (worth_of b + 2 * n) (suc i) ≡ bit_of n i
later_bit b n i =
    ap (λ k. k == 1) (bit_at-suc (worth_of b + 2 * n) i
    ∙ ap (λ k. bit_at k i) (let z : (worth_of b + 2 * n) / 2 ≡ n = omega (arith, worth_small b) in z))

row_bit : (f : ℕ → Bool) (xs : List ℕ) (b : ℕ) → is_input b xs ≡ true → bit_of (coded (map f xs)) (slot b xs) ≡ f b
row_bit f [] b h = absurd (false≢true h)
row_bit f (x ∷ xs) b h =
    at_test
    (λ c. cond c true (is_input b xs) ≡ true → bit_of (worth_of (f x) + 2 * coded (map f xs)) (cond c 0 (suc (slot b xs))) ≡ f b) (b == x)
    (λ e k. first_bit (f x) (coded (map f xs)) ∙ ap f (sym (eqb-true b x e)))
    (λ e k. later_bit (f x) (coded (map f xs)) (slot b xs) ∙ row_bit f xs b k) h

-- the first words hold the outputs of the rows that they have
output_taken : (n j : ℕ) (words : List ℕ) → j < word_rows * n → output (take n words) j ≡ output words j
output_taken n j words h = ap (λ w. bit_of w (j % word_rows)) (get_or-take n words (j / word_rows) 0 (omega (arith, h)))

-- values have the row that they make
pub have_own : (f : ℕ → Bool) (xs : List ℕ) → HaveRow xs (coded (map f xs)) f
have_own f xs b h = sym (row_bit f xs b h)

-- the output in the row of a valuation is the value of the expression there
pub looked_up : (f : ℕ → Bool) (known : List ℕ) (row : ℕ) (xs words : List ℕ) (n : ℕ) (e : Expression ℕ)
    → length xs ≤ most_inputs
    → 2 ^ length xs ≤ word_rows * n → Tabulates known row xs words e → HaveRow known row f →
    output (take n words) (coded (map f xs)) ≡ worth f e
looked_up f known row xs words n e few enough t have =
    let many : length (map f xs) ≡ length xs = length-map xs f in
    let most : 2 ^ length xs ≤ 2 ^ 10 = pow_mono few in
    let small : coded (map f xs) < 2 ^ length xs = subst (λ k. coded (map f xs) < 2 ^ k) many
    (coded_small (map f xs)) in
    output_taken n (coded (map f xs)) words (omega (arith, small, enough))
    ∙ t f (coded (map f xs)) (omega (arith, most, small)) have (have_own f xs)

-- one more value of a row: it counts with the weight of its place
split : (p : ℕ) (b : Bool) (n : ℕ) → p * (worth_of b + 2 * n) ≡ worth_of b * p + p * 2 * n
split p true n = mul-add p 1 (2 * n) ∙ (let a : p * 2 * n ≡ p * (2 * n) = mul_assoc p 2 n in omega (arith, a))
split p false n = let a : p * 2 * n ≡ p * (2 * n) = mul_assoc p 2 n in let z : 0 + 2 * n ≡ 2 * n = omega arith in
    ap (λ k. p * k) z ∙ omega (arith, a)

pub row_step : {A : Type 0} (f : A → Bool) (xs rest : List A) (x : A) (row place bit whole : ℕ)
    → row + place * coded (map f xs) ≡ whole
    → xs ≡ x ∷ rest → bit ≡ worth_of (f x)
    → (row + bit * place) + place * 2 * coded (map f rest) ≡ whole
row_step f xs rest x row place bit whole h e is =
    let all : place * coded (map f xs) ≡ worth_of (f x) * place + place * 2 * coded (map f rest) = ap (λ l. place * coded (map f l)) e
    ∙ split place (f x) (coded (map f rest)) in
    let one : bit * place ≡ worth_of (f x) * place = ap (λ n. n * place) is in
    omega (arith, h, all, one)

pub below_next : (b : Bool) (row place bit : ℕ) → row < place → bit ≡ worth_of b → row + bit * place < place * 2
below_next true row place bit h is = let e : bit * place ≡ 1 * place = ap (λ n. n * place) is in omega (arith, h, e)
below_next false row place bit h is = let e : bit * place ≡ 0 * place = ap (λ n. n * place) is in omega (arith, h, e)
