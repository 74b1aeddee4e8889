-- The choice, put at once where `?` are written to neighbouring bits, is what the writes make of it one after the other.
use Rattle.std.proofs.Common.{◌≡◌, ◌<◌, ℕ, suc, ◌+◌, ◌-◌, ◌*◌, ◌/◌, ◌%◌, ◌^◌, ◌==◌, ◌&&◌, ◌||◌, nat_lt}
use Rattle.std.proofs.Common.{Bool, true, false, cond, not, List, [], ◌∷◌, length, drop, get_or, bit_and, bit_or}
use Rattle.std.proofs.Common.{inl, inr, refl, sym, ◌∙◌, ap, ap₂, arith}
use Rattle.std.specs.Int.{bit_at, w128}
use Rattle.std.proofs.lemmas.Bool.{cases_eq, eqb-true, false≢true, ltb-true, ltb-false}
use Rattle.std.proofs.lemmas.Nat.Bits.{bit_at_ones, bit_at-suc, bit_at-lt, bit_at_not, bit_at-pow_other}
use Rattle.std.proofs.lemmas.List.{drop_more}
use Rattle.language.specs.Words.{word_bits}
use Rattle.language.proofs.TestLemmas.{at_test}
use Rattle.flow_graph.specs.Assignments.{masked, choice_left, after_writes}
use Rattle.flow_graph.specs.Bits.{bit_of}
use Rattle.flow_graph.specs.Formulas.{side_value}
use Rattle.flow_graph.specs.Joining.{is_any, chooses, all_choose, all_bits, unwritten}
use Rattle.flow_graph.specs.declared.assignment.Write.{Write}
use Rattle.flow_graph.specs.declared.side.CompiledSide.{CompiledSide}
use Rattle.flow_graph.specs.declared.side.CompiledSide.TheVariants as side
use Rattle.flow_graph.proofs.Assignments.{same_bits}
use Rattle.flow_graph.proofs.ChoiceLemmas.{masked_in}
use Rattle.flow_graph.proofs.JointLemmas.{both, either, past}
use Rattle.flow_graph.proofs.Rows.{bits_and, bits_or, two_bits}
use Rattle.flow_graph.proofs.WindowLemmas.{low_bit, raised}
use Rattle.resolved.specs.Limits.{most_places}

-- ---- one write

module _ {A : Type 0} (c : ℕ) where
  left_any : (s : CompiledSide A) → is_any s ≡ true → choice_left s c ≡ c / 2
  left_any side.Any any = refl
  left_any (side.Value formula) any = absurd (false≢true any)

  value_any : (s : CompiledSide A) (u : ℕ) → is_any s ≡ true → side_value s u c ≡ bit_of c 0
  value_any side.Any u any = refl
  value_any (side.Value formula) u any = absurd (false≢true any)

one_chosen : (m x n kept v s : Bool) → (m ≡ true → s ≡ x) → n ≡ cond kept v s → cond m x n ≡ cond (cond m false kept) v s
one_chosen true x n kept v s here e = sym (here refl)
one_chosen false x n kept v s here e = e

-- a power of 2 has one bit
power_bit : (b k : ℕ) → bit_of (2 ^ b) k ≡ true → b ≡ k
power_bit b k is = elim (cases_eq b k) [
  | inl e ↦ e
  | inr apart ↦ absurd (false≢true (sym (ap (λ n. n == 1) (bit_at-pow_other b k (λ e. apart (sym e)))) ∙ is))
]

-- ---- all writes

module _ {A : Type 0} (u s v k : ℕ) where
  -- what the writes make has the bits of one number where they write, if those are the bits of the choice, and of another
  -- elsewhere, if it was so before the writes
  chosen_bit : (ws : List (Write A)) (b c n kept : ℕ) → all_choose ws b ≡ true
      → ((j : ℕ) → b + j < word_bits → bit_of s (b + j) ≡ bit_of c j)
      → bit_of n k ≡ cond (bit_of kept k) (bit_of v k) (bit_of s k)
      → bit_of (after_writes ws u c n) k ≡ cond (bit_of (unwritten ws kept) k) (bit_of v k) (bit_of s k)
  chosen_bit [] b c n kept all there e = e
  chosen_bit (w ∷ ws) b c n kept all there e =
      let inside = both (nat_lt b most_places) (cond (chooses w b) (all_choose ws (suc b)) false) all in
      let more = both (chooses w b) (all_choose ws (suc b)) inside.1 in
      let here = both (is_any w.side) (w.mask == 2 ^ b) more.0 in
      let less : b < word_bits = ltb-true b most_places inside.0 in
      let x = side_value w.side u c in
      let value : bit_of s b ≡ x = ap (bit_of s) (let z : b ≡ b + 0 = omega arith in z) ∙ there 0 (omega (arith, less))
      ∙ sym (value_any c w.side u here.0) in
      chosen_bit ws (suc b) (choice_left w.side c) (masked n w.mask x) (masked kept w.mask false) more.1
      (λ j within. ap (bit_of s) (let z : suc b + j ≡ b + suc j = omega arith in z) ∙ there (suc j) (omega (arith, within))
      ∙ ap (λ y. y == 1) (bit_at-suc c j) ∙ ap (λ d. bit_of d j) (sym (left_any c w.side here.0)))
      (masked_in n w.mask k x
      ∙ one_chosen (bit_of w.mask k) x (bit_of n k) (bit_of kept k) (bit_of v k) (bit_of s k)
      (λ is. ap (bit_of s) (sym (power_bit b k (ap (λ m. bit_of m k) (sym (eqb-true w.mask (2 ^ b) here.1)) ∙ is))) ∙ value) e
      ∙ ap (λ y. cond y (bit_of v k) (bit_of s k)) (sym (masked_in kept w.mask k false)))

-- ---- the choice, moved up

moved_bit : (c b j : ℕ) → b + j < word_bits → bit_of (c * 2 ^ b % 2 ^ word_bits) (b + j) ≡ bit_of c j
moved_bit c b j less =
    ap (λ n. n == 1)
    (low_bit word_bits (c * 2 ^ b) (b + j) less ∙ raised c b (b + j) (omega arith)
    ∙ ap (bit_at c) (let z : b + j - b ≡ j = omega arith in z))

-- ---- both parts

bit_not_of : (a k : ℕ) → a < 2 ^ word_bits → k < word_bits → bit_of (all_bits - a) k ≡ not (bit_of a k)
bit_not_of a k fits less =
    ap (λ n. n == 1) (bit_at_not w128 a k fits less)
    ∙ two_bits (λ x y. (1 - x == 1) ≡ not (x == 1)) refl refl refl refl (bit_at a k) 0 (bit_at-lt a k) (omega arith)

two_parts : (kept v s : Bool) → cond kept v s ≡ ((v && kept) || (s && not kept))
two_parts true true true = refl
two_parts true true false = refl
two_parts true false true = refl
two_parts true false false = refl
two_parts false true true = refl
two_parts false true false = refl
two_parts false false true = refl
two_parts false false false = refl

-- the bits that are kept and those of the choice make the valuation after the writes
pub chosen_right : {A : Type 0} (ws : List (Write A)) (first kept : ℕ) → all_choose ws first ≡ true
    → kept ≡ unwritten ws all_bits → kept < 2 ^ word_bits → (values choice : ℕ) → values < 2 ^ word_bits
    → after_writes ws values choice values
    ≡ bit_or (bit_and values kept) (bit_and (choice * 2 ^ first % 2 ^ word_bits) (all_bits - kept))
chosen_right ws first kept all without within values choice fits = same_bits _ _ by_bit
  where
    moved : ℕ
    moved = choice * 2 ^ first % 2 ^ word_bits

    small : moved < 2 ^ word_bits
    small = omega arith

    before : (k : ℕ) → bit_of values k ≡ cond (bit_of all_bits k) (bit_of values k) (bit_of moved k)
    before k = at_test (λ c. bit_of values k ≡ cond (bit_of all_bits k) (bit_of values k) (bit_of moved k)) (nat_lt k word_bits)
        (λ is. ap (λ c. cond c (bit_of values k) (bit_of moved k))
        (sym (ap (λ n. n == 1) (bit_at_ones word_bits k (ltb-true k word_bits is)))))
        (λ is. let far = ltb-false k word_bits is in
        past values k fits far
        ∙ sym (ap₂ (cond (bit_of all_bits k)) (past values k fits far) (past moved k small far) ∙ either (bit_of all_bits k) false))

    joined : (k : ℕ) → cond (bit_of kept k) (bit_of values k) (bit_of moved k)
        ≡ ((bit_of values k && bit_of kept k) || (bit_of moved k && bit_of (all_bits - kept) k))
    joined k = at_test
        (λ c. cond (bit_of kept k) (bit_of values k) (bit_of moved k)
        ≡ ((bit_of values k && bit_of kept k) || (bit_of moved k && bit_of (all_bits - kept) k))) (nat_lt k word_bits)
        (λ is. two_parts (bit_of kept k) (bit_of values k) (bit_of moved k)
        ∙ ap (λ n. (bit_of values k && bit_of kept k) || (bit_of moved k && n))
        (sym (bit_not_of kept k within (ltb-true k word_bits is))))
        (λ is. let far = ltb-false k word_bits is in
        ap₂ (cond (bit_of kept k)) (past values k fits far) (past moved k small far)
        ∙ either (bit_of kept k) false
        ∙ sym (ap₂ (λ x y. (x && bit_of kept k) || (y && bit_of (all_bits - kept) k)) (past values k fits far)
        (past moved k small far)))

    by_bit : (k : ℕ) → bit_of (after_writes ws values choice values) k
        ≡ bit_of (bit_or (bit_and values kept) (bit_and moved (all_bits - kept))) k
    by_bit k =
        chosen_bit values moved values k ws first choice values all_bits all (λ j less. moved_bit choice first j less)
        (before k)
        ∙ ap (λ m. cond (bit_of m k) (bit_of values k) (bit_of moved k)) (sym without)
        ∙ joined k
        ∙ sym (bits_or (bit_and values kept) (bit_and moved (all_bits - kept)) k
        ∙ ap₂ (λ x y. x || y) (bits_and values kept k) (bits_and moved (all_bits - kept) k))

-- ---- one write after the other

pub choose_step : {A : Type 0} (ws : List (Write A)) (i b : ℕ) (w : Write A) → i < length ws → w ≡ get_or ws i w
    → all_choose (drop i ws) b
    ≡ cond (nat_lt b most_places) (cond (chooses w b) (all_choose (drop (i + 1) ws) (suc b)) false) false
choose_step ws i b w less is = ap (λ l. all_choose l b) (drop_more ws i w less ∙ ap (λ x. x ∷ drop (i + 1) ws) (sym is))
