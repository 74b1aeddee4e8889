-- A joint table gives what the writes make of each valuation.
use Rattle.std.proofs.Common.{◌≡◌, ◌<◌, ◌≤◌, ℕ, zero, suc, ◌+◌, ◌-◌, ◌*◌, ◌/◌, ◌%◌, ◌^◌, ◌==◌, ◌&&◌, ◌||◌, nat_lt}
use Rattle.std.proofs.Common.{Bool, true, false, cond, List, [], ◌∷◌, ◌++◌, length, map, get_or, bit_and, bit_or}
use Rattle.std.proofs.Common.{inl, inr, refl, sym, ◌∙◌, ap, ap₂, subst, arith}
use Rattle.std.proofs.lemmas.Bool.{ne_eqb, eqb-false, cases_eq, false≢true, ltb-true, ltb-false}
use Rattle.std.proofs.lemmas.List.{length-map, length-append, get_or_push, get_or_append_left}
use Rattle.std.proofs.Common.{append-nil}
use Rattle.std.proofs.lemmas.Nat.Bits.{same_from_bits, bit_at_lowest, bit_at_above, bit_at_ones, bit_at-zero}
use Rattle.language.specs.Words.{word_bits}
use Rattle.language.proofs.TestLemmas.{at_test}
use Rattle.flow_graph.specs.Assignments.{masked, choice_left, after_writes, any_of, anys}
use Rattle.flow_graph.specs.Bits.{bit_of, worth_of, coded}
use Rattle.flow_graph.specs.Formulas.{side_value, words_of}
use Rattle.flow_graph.specs.Joining.{reads_few, all_read_few, reads, some_reads, read_bits, placed, all_bits, unwritten, AreRows}
use Rattle.flow_graph.specs.Tables.{is_input, output, AreBits}
use Rattle.flow_graph.specs.Windows.{span, seen}
use Rattle.flow_graph.specs.declared.assignment.Write.{Write}
use Rattle.flow_graph.specs.declared.formula.Formula.TheVariants.{Code, Cases as CasesOf, Table as Tabled, Bit as BitOf}
use Rattle.flow_graph.specs.declared.side.CompiledSide.{CompiledSide}
use Rattle.flow_graph.specs.declared.side.CompiledSide.TheVariants as side
use Rattle.flow_graph.proofs.Assignments.{masked_bit}
use Rattle.flow_graph.proofs.ChoiceLemmas.{masked_in}
use Rattle.flow_graph.proofs.Rows.{bits_and, bits_or, bits_pushed, first_bit, slot_kept, slot_last}
use Rattle.flow_graph.proofs.Stacks.{worth_small, bit_worth, coded_small}
use Rattle.resolved.specs.Limits.{most_places}

-- ---- what a right side reads determines its value

-- a number is itself
same_number : (b : ℕ) → (b == b) ≡ true
same_number b = at_test (λ c. c ≡ true) (b == b) (λ e. refl) (λ e. absurd (eqb-false b b e refl))

-- two valuations in which each of these bits is the same have the same row
map_agree : (f g : ℕ → Bool) (xs : List ℕ) → ((b : ℕ) → is_input b xs ≡ true → f b ≡ g b) → map f xs ≡ map g xs
map_agree f g [] same = refl
map_agree f g (x ∷ xs) same =
    ap₂ (λ b bs. b ∷ bs) (same x (ap (λ c. cond c true (is_input x xs)) (same_number x)))
    (map_agree f g xs (λ b there. same b (at_test (λ c. cond c true (is_input b xs) ≡ true) (b == x) (λ e. refl) (λ e. there))))

module _ {A : Type 0} where
  -- if all that a variable or a truth table reads is the same, so is its value
  side_agree : (s : CompiledSide A) (u v c d : ℕ) → reads_few s ≡ true
      → ((b : ℕ) → reads s b ≡ true → bit_of u b ≡ bit_of v b) → side_value s u c ≡ side_value s v d
  side_agree side.Any u v c d few same = absurd (false≢true few)
  side_agree (side.Value (BitOf variable)) u v c d few same = same variable.bit (same_number variable.bit)
  side_agree (side.Value (Tabled table)) u v c d few same =
      ap (λ bs. output (words_of table.outputs) (coded bs)) (map_agree (bit_of u) (bit_of v) (seen table.inputs.items.items) same)
  side_agree (side.Value (CasesOf cases)) u v c d few same = absurd (false≢true few)
  side_agree (side.Value (Code code)) u v c d few same = absurd (false≢true few)

-- a variable or a truth table is no `?`
no_any : {A : Type 0} (s : CompiledSide A) → reads_few s ≡ true → any_of s ≡ 0
no_any side.Any few = absurd (false≢true few)
no_any (side.Value formula) few = refl

-- ---- the bits of windows

-- a bit of a window is one of those of the windows from there on
pub in_window : (b first count : ℕ) (xs : List ℕ) → first ≤ b → b - first < count → is_input b (span first count ++ xs) ≡ true
in_window b first zero xs from before = absurd (omega (arith, before))
in_window b first (suc count) xs from before = elim (cases_eq b first) [
  | inl e ↦ ap (λ c. cond c true (is_input b (span (suc first) count ++ xs))) (ap (λ n. b == n) (sym e) ∙ same_number b)
  | inr apart ↦ ap (λ c. cond c true (is_input b (span (suc first) count ++ xs))) (ne_eqb b first apart)
      ∙ in_window b (suc first) count xs (omega (arith, from, apart)) (omega (arith, from, before, apart))
]

-- another bit is one of them if it is one of those of the others
pub not_in_window : (b first count : ℕ) (xs : List ℕ) → (first ≤ b → count ≤ b - first)
    → is_input b (span first count ++ xs) ≡ is_input b xs
not_in_window b first zero xs out = refl
not_in_window b first (suc count) xs out =
    ap (λ c. cond c true (is_input b (span (suc first) count ++ xs))) (ne_eqb b first (λ e. absurd (first_out e)))
    ∙ not_in_window b (suc first) count xs (λ from. let far = out (omega (arith, from)) in omega (arith, from, far))
  where
    first_out : b ≡ first → ⊥
    first_out e = let far = out (omega (arith, e)) in omega (arith, e, far)

-- ---- the bits that are read

module _ {A : Type 0} (ws : List (Write A)) where
  -- the bits below the next number are those below this one, and this one if it is read
  read_next : (n : ℕ) (b : Bool) → some_reads ws n ≡ b → read_bits ws (n + 1) ≡ read_bits ws n ++ cond b (n ∷ []) []
  unfolding read_bits
  read_next n b is =
      ap (read_bits ws) (let z : n + 1 ≡ suc n = omega arith in z) ∙ ap (λ c. read_bits ws n ++ cond c (n ∷ []) []) is

  pub read_one : (n : ℕ) → some_reads ws n ≡ true → read_bits ws (n + 1) ≡ read_bits ws n ++ n ∷ []
  read_one n is = read_next n true is

  pub read_none : (n : ℕ) → some_reads ws n ≡ false → read_bits ws (n + 1) ≡ read_bits ws n
  read_none n is = read_next n false is ∙ append-nil (read_bits ws n)

  pub read_first : read_bits ws 0 ≡ []
  unfolding read_bits
  read_first = refl

  -- each bit that is read is among them
  pub read_inside : (n b : ℕ) → b < n → some_reads ws b ≡ true → is_input b (read_bits ws n) ≡ true
  unfolding read_bits
  read_inside zero b less there = absurd (omega (arith, less))
  read_inside (suc n) b less there = elim (cases_eq n b) [
    | inl e ↦ ap (λ c. is_input b (read_bits ws n ++ cond c (n ∷ []) [])) (ap (some_reads ws) e ∙ there)
        ∙ ap (λ m. is_input b (read_bits ws n ++ m ∷ [])) e ∙ (slot_last b (read_bits ws n)).1
    | inr apart ↦ (slot_kept b (read_bits ws n) (cond (some_reads ws n) (n ∷ []) [])
        (read_inside n b (omega (arith, less, apart)) there)).1
  ]

  -- they are places
  pub read_places : (n : ℕ) → n ≤ most_places → AreBits (read_bits ws n)
  unfolding read_bits
  read_places zero few = tt
  read_places (suc n) few = at_test (λ c. AreBits (read_bits ws n ++ cond c (n ∷ []) [])) (some_reads ws n)
      (λ is. bits_pushed n (read_bits ws n) few (read_places n (omega (arith, few))))
      (λ is. subst AreBits (sym (append-nil (read_bits ws n))) (read_places n (omega (arith, few))))

  -- and no fewer below a greater number
  pub read_longer : (d n m : ℕ) → m ≡ d + n → length (read_bits ws n) ≤ length (read_bits ws m)
  unfolding read_bits
  read_longer zero n m e =
      let same : n ≡ m = omega (arith, e) in
      subst (λ k. length (read_bits ws n) ≤ length (read_bits ws k)) same (omega arith)
  read_longer (suc d) n zero e = absurd (omega (arith, e))
  read_longer (suc d) n (suc m) e =
      omega (arith, read_longer d n m (omega (arith, e)), length-append (read_bits ws m) (cond (some_reads ws m) (m ∷ []) []))

-- ---- the values of a row, in their bits

pub either : (b : Bool) (x : Bool) → cond b x x ≡ x
either true x = refl
either false x = refl

one_placed : (f : ℕ → Bool) (b k : ℕ) (i x : Bool) → cond i (f k) (cond (b == k) (f b) x) ≡ cond (cond (k == b) true i) (f k) x
one_placed f b k i x = elim (cases_eq b k) [
  | inl e ↦ subst (λ n. cond i (f n) (cond (b == n) (f b) x) ≡ cond (cond (n == b) true i) (f n) x) e
      (ap (λ c. cond i (f b) (cond c (f b) x)) (same_number b) ∙ either i (f b)
      ∙ sym (ap (λ c. cond (cond c true i) (f b) x) (same_number b)))
  | inr apart ↦
      ap (λ c. cond i (f k) (cond c (f b) x)) (ne_eqb b k apart)
      ∙ sym (ap (λ c. cond (cond c true i) (f k) x) (ne_eqb k b (λ e. apart (sym e))))
]

-- the bits of a row have their values, and the others stay
placed_bit : (f : ℕ → Bool) (bs : List ℕ) (v k : ℕ)
    → bit_of (placed bs (coded (map f bs)) v) k ≡ cond (is_input k bs) (f k) (bit_of v k)
placed_bit f [] v k = refl
placed_bit f (b ∷ bs) v k =
    let rest = coded (map f bs) in
    let row : ℕ = worth_of (f b) + 2 * rest in
    let half : row / 2 ≡ rest = omega (arith, worth_small (f b)) in
    let low : (row % 2 == 1) ≡ f b = ap (λ n. n == 1) (sym (bit_at_lowest row)) ∙ first_bit (f b) rest in
    ap (λ r. bit_of (placed bs r (masked v (2 ^ b) (row % 2 == 1))) k) half
    ∙ ap (λ x. bit_of (placed bs rest (masked v (2 ^ b) x)) k) low
    ∙ placed_bit f bs (masked v (2 ^ b) (f b)) k
    ∙ ap (cond (is_input k bs) (f k)) (masked_bit v b k (f b))
    ∙ one_placed f b k (is_input k bs) (bit_of v k)

-- ---- what is written, apart from what stays

one_joined : (m x n v k l : Bool) → n ≡ ((v && k) || l) → cond m x n ≡ ((v && cond m false k) || cond m x l)
one_joined true x n true k l e = refl
one_joined true x n false k l e = refl
one_joined false x n v k l e = e

pub both : (a b : Bool) → cond a b false ≡ true → (a ≡ true) × (b ≡ true)
both true b h = (refl, h)
both false b h = absurd (false≢true h)

-- without `?` there is one choice
pub none_any : {A : Type 0} (ws : List (Write A)) → all_read_few ws ≡ true → anys ws ≡ 0
none_any [] few = refl
none_any (w ∷ ws) few =
    let all = both (reads_few w.side) (all_read_few ws) few in
    ap₂ (λ m n. m + n) (no_any w.side all.0) (none_any ws all.1)

later_true : (a b : Bool) → b ≡ true → cond a true b ≡ true
later_true true b h = refl
later_true false b h = h

module _ {A : Type 0} (u s v k : ℕ) where
  -- what writes make over one valuation is what is kept of a third, and what they make over another that agrees with the
  -- first in all that is read, if it was so before the writes
  joined : (ws : List (Write A)) (c d n m kept : ℕ) → all_read_few ws ≡ true
      → ((b : ℕ) → some_reads ws b ≡ true → bit_of u b ≡ bit_of s b)
      → bit_of n k ≡ ((bit_of v k && bit_of kept k) || bit_of m k)
      → bit_of (after_writes ws u c n) k ≡ ((bit_of v k && bit_of (unwritten ws kept) k) || bit_of (after_writes ws s d m) k)
  joined [] c d n m kept few same e = e
  joined (w ∷ ws) c d n m kept few same e =
      let x = side_value w.side u c in
      let y = side_value w.side s d in
      let all = both (reads_few w.side) (all_read_few ws) few in
      let equal : x ≡ y = side_agree w.side u s c d all.0 (λ b there. same b (ap (λ r. cond r true (some_reads ws b)) there)) in
      joined ws (choice_left w.side c) (choice_left w.side d) (masked n w.mask x) (masked m w.mask y) (masked kept w.mask false) all.1
      (λ b there. same b (later_true (reads w.side b) (some_reads ws b) there))
      (masked_in n w.mask k x
      ∙ one_joined (bit_of w.mask k) x (bit_of n k) (bit_of v k) (bit_of kept k) (bit_of m k) e
      ∙ ap (λ z. (bit_of v k && cond (bit_of w.mask k) false (bit_of kept k)) || cond (bit_of w.mask k) z (bit_of m k)) equal
      ∙ sym (ap₂ (λ i j. (bit_of v k && i) || j) (masked_in kept w.mask k false) (masked_in m w.mask k y)))

-- ---- the table

no_bit : (k : ℕ) → bit_of 0 k ≡ false
no_bit k = ap (λ n. n == 1) (bit_at-zero k)

-- a valuation has no bit past its last
pub past : (v k : ℕ) → v < 2 ^ word_bits → word_bits ≤ k → bit_of v k ≡ false
past v k fits far = ap (λ n. n == 1) (bit_at_above v word_bits k fits far)

-- before any write, all bits are kept, and none is written
whole : (v k : ℕ) → v < 2 ^ word_bits → bit_of v k ≡ ((bit_of v k && bit_of all_bits k) || bit_of 0 k)
whole v k fits = at_test (λ c. bit_of v k ≡ ((bit_of v k && bit_of all_bits k) || bit_of 0 k)) (nat_lt k word_bits)
    (λ is. let one : bit_of all_bits k ≡ true = ap (λ n. n == 1) (bit_at_ones word_bits k (ltb-true k word_bits is)) in
    sym (ap₂ (λ i j. (bit_of v k && i) || j) one (no_bit k) ∙ same (bit_of v k)))
    (λ is. let none = past v k fits (ltb-false k word_bits is) in
    none ∙ sym (ap₂ (λ i j. (i && bit_of all_bits k) || j) none (no_bit k)))
  where
    same : (b : Bool) → ((b && true) || false) ≡ b
    same true = refl
    same false = refl

-- a bit that is read is the same in the valuation that has the values of a valuation's row, and 0 elsewhere
read_same : {A : Type 0} (ws : List (Write A)) (bits : List ℕ) (v b : ℕ) → v < 2 ^ word_bits
    → ((k : ℕ) → k < most_places → some_reads ws k ≡ true → is_input k bits ≡ true) → some_reads ws b ≡ true
    → bit_of v b ≡ bit_of (placed bits (coded (map (bit_of v) bits)) 0) b
read_same ws bits v b fits all there = at_test
    (λ c. bit_of v b ≡ bit_of (placed bits (coded (map (bit_of v) bits)) 0) b) (nat_lt b word_bits)
    (λ is. sym (placed_bit (bit_of v) bits 0 b
    ∙ ap (λ c. cond c (bit_of v b) (bit_of 0 b)) (all b (ltb-true b word_bits is) there)))
    (λ is. let none = past v b fits (ltb-false b word_bits is) in
    none ∙ sym (placed_bit (bit_of v) bits 0 b ∙ ap₂ (cond (is_input b bits)) none (no_bit b) ∙ either (is_input b bits) false))

-- a row has a bit for each input
pub row_fits : (f : ℕ → Bool) (xs : List ℕ) → coded (map f xs) < 2 ^ length xs
row_fits f xs = subst (λ n. coded (map f xs) < 2 ^ n) (length-map xs f) (coded_small (map f xs))

-- the bits that are kept and those in the row of a valuation make the valuation after the writes
pub joint_right : {A : Type 0} (ws : List (Write A)) (bits inputs rows : List ℕ) (kept : ℕ) → all_read_few ws ≡ true
    → ((k : ℕ) → k < most_places → some_reads ws k ≡ true → is_input k bits ≡ true)
    → AreRows ws bits rows (2 ^ length bits) → inputs ≡ bits → kept ≡ unwritten ws all_bits
    → (values choice : ℕ) → values < 2 ^ word_bits
    → after_writes ws values choice values ≡ bit_or (bit_and values kept) (get_or rows (coded (map (bit_of values) inputs)) 0)
joint_right ws bits inputs rows kept few all right are without values choice fits =
    let row = coded (map (bit_of values) bits) in
    let at = placed bits row 0 in
    let written = after_writes ws at 0 0 in
    let found : get_or rows (coded (map (bit_of values) inputs)) 0 ≡ written =
    ap (λ xs. get_or rows (coded (map (bit_of values) xs)) 0) are ∙ right.1 row (row_fits (bit_of values) bits) in
    let stay = bit_and values (unwritten ws all_bits) in
    same_from_bits _ _ (λ k.
    let here : bit_of (after_writes ws values choice values) k ≡ bit_of (bit_or stay written) k =
    joined values at values k ws choice 0 values 0 all_bits few (λ b there. read_same ws bits values b fits all there) (whole values k fits)
    ∙ sym (bits_or stay written k ∙ ap (λ c. c || bit_of written k) (bits_and values (unwritten ws all_bits) k)) in
    bit_worth (after_writes ws values choice values) k ∙ ap worth_of here ∙ sym (bit_worth (bit_or stay written) k))
    ∙ sym (ap₂ (λ m w. bit_or (bit_and values m) w) without found)

-- one more row
pub one_more_row : {A : Type 0} (ws : List (Write A)) (bits rows : List ℕ) (n w : ℕ) → AreRows ws bits rows n
    → w ≡ after_writes ws (placed bits n 0) 0 0 → AreRows ws bits (rows ++ w ∷ []) (n + 1)
one_more_row ws bits rows n w (long, all) is = (
  omega (arith, long, length-append rows (w ∷ [])),
  λ row less. elim (cases_eq row n) [
    | inl e ↦ get_or_push rows w 0 row (long ∙ sym e) ∙ is ∙ ap (λ r. after_writes ws (placed bits r 0) 0 0) (sym e)
    | inr apart ↦ let before : row < n = omega (arith, less, apart) in
        get_or_append_left rows (w ∷ []) 0 row (omega (arith, before, long)) ∙ all row before
  ],
)
