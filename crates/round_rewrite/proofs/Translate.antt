-- What the rewritten expressions are worth.
use Rattle.std.proofs.Common.{◌≡◌, eqb, ℕ, zero, suc, ◌+◌, ◌*◌, ◌^◌, ◌<◌, ◌≤◌, Bool, false, not, ◌&&◌, ◌||◌, List, [], ◌∷◌, ◌++◌, length}
use Rattle.std.proofs.Common.{map, refl, sym, ◌∙◌, ap, ap₂, arith, inl, inr}
use Rattle.std.proofs.lemmas.Bool.{cases_eq, and_left, eq-eqb, ne_eqb}
use Rattle.std.proofs.lemmas.List.{get_or_append_left}
use Rattle.std.proofs.Math.Bool.{or-false}
use Rattle.language.specs.Tree.{Expression, const, var, negation, two, RightSide, any, value}
use Rattle.language.specs.Value.{Place, global, local, bit, operate, value_of, values_of, IsValue}
use Rattle.round_rewrite.specs.Table.{in_round, read_by_round, expression_form, side}
use Rattle.round_rewrite.specs.Places.{places, bits_at}
use Rattle.resolved.specs.Scoped.{InScope, AreInScope, SideInScope}
use Rattle.round_rewrite.proofs.RoundBitLemmas.{tells, bits_suffice}
use Rattle.round_rewrite.proofs.LayoutLemmas.{row, row_bit, Moment, globals_at, has_bits}
use Rattle.round_rewrite.specs.Limits.{most_rounds, round_bits}

module _ {n last : ℕ} (small : last < most_rounds) (now : Moment n last) (own : ℕ) (L : List Bool) where
  open now use {C, S, q, b, shape, within}

  abbrev globals_now : List Bool
  globals_now = globals_at now

  -- `at` k is the test that the round is k
  pub at_is : (k : ℕ) → k ≤ last → value_of globals_now L (in_round (places n last own) last k) ≡ eqb k q
  at_is k h =
      let suffice : last < 2 ^ round_bits last = bits_suffice last small in
      tells globals_now L (bits_at n last) (round_bits last) k q (false ∷ b ∷ []) (has_bits n last C S shape q false b)
      (omega (arith, suffice, h)) (omega (arith, suffice, within))

  copy_is : (k i : ℕ) → k ≤ last → i < n → bit globals_now (k * n + i) ≡ bit (row C k) i
  copy_is k i h h' = row_bit n C _ k i shape.copies (let e : length C ≡ suc last = shape.rounds in omega arith) h'

  before : (k i : ℕ) → k ≤ last → i < n → k < q
      → value_of globals_now L (read_by_round (places n last own) last k (global i)) ≡ false
  before zero i h h' lt = and_left _ _ (at_is zero h ∙ ne_eqb zero q (omega arith))
  before (suc k) i h h' lt =
      ap₂ (λ x y. x || y) (before k i (omega arith) h' (omega arith))
      (and_left _ _ (at_is (suc k) h ∙ ne_eqb (suc k) q (omega arith)))

  from : (k i : ℕ) → k ≤ last → i < n → q ≤ k
      → value_of globals_now L (read_by_round (places n last own) last k (global i)) ≡ bit (row C q) i
  from zero i h h' le =
      let e : q ≡ zero = omega arith in
      ap₂ (λ x y. x && y) (at_is zero h ∙ (ap (eqb zero) e ∙ refl)) (copy_is zero i h h' ∙ ap (λ z. bit (row C z) i) (sym e))
  from (suc k) i h h' le = elim (cases_eq q (suc k)) [
    | inl e ↦ ap₂ (λ x y. x || y) (before k i (omega arith) h' (omega arith))
        (ap₂ (λ x y. x && y) (at_is (suc k) h ∙ (ap (eqb (suc k)) e ∙ eq-eqb (suc k) (suc k) refl))
        (copy_is (suc k) i h h' ∙ ap (λ z. bit (row C z) i) (sym e)))
    | inr ne ↦ ap₂ (λ x y. x || y) (from k i (omega arith) h' (omega arith))
        (and_left _ _ (at_is (suc k) h ∙ ne_eqb (suc k) q (omega arith)))
        ∙ or-false _
  ]

  -- a rewritten read is the read of the round's copy: the frame's own places come first in both
  pub expression_is : (l tmp more : List Bool) → L ≡ l ++ tmp → length l ≡ own → (e : Expression Place) → InScope n own e
      → value_of globals_now L (expression_form (places n last own) last e) ≡ value_of (row C q) (l ++ more) e
  expression_is l tmp more eL el (const c) h = refl
  expression_is l tmp more eL el (var (global i)) h = from last i (omega arith) h within
  expression_is l tmp more eL el (var (local i)) h =
      ap (λ z. bit z i) eL
      ∙ (get_or_append_left l tmp false i (omega arith) ∙ sym (get_or_append_left l more false i (omega arith)))
  expression_is l tmp more eL el (negation e) h = ap not (expression_is l tmp more eL el e h)
  expression_is l tmp more eL el (two o x y) h =
      ap₂ (operate o) (expression_is l tmp more eL el x h.0) (expression_is l tmp more eL el y h.1)

  pub expressions_are : (l tmp more : List Bool) → L ≡ l ++ tmp → length l ≡ own → (es : List (Expression Place))
      → AreInScope n own es
      → values_of globals_now L (map (expression_form (places n last own) last) es) ≡ values_of (row C q) (l ++ more) es
  expressions_are l tmp more eL el [] h = refl
  expressions_are l tmp more eL el (e ∷ es) h =
      ap₂ (λ x xs. x ∷ xs) (expression_is l tmp more eL el e h.0) (expressions_are l tmp more eL el es h.1)

  pub side_is : (l tmp more : List Bool) → L ≡ l ++ tmp → length l ≡ own → (r : RightSide Place) → SideInScope n own r
      → (v : Bool)
      → IsValue globals_now L (side (places n last own) last r) v ≡ IsValue (row C q) (l ++ more) r v
  side_is l tmp more eL el any h v = refl
  side_is l tmp more eL el (value e) h v = ap (λ z. v ≡ z) (expression_is l tmp more eL el e h)
