-- Tables for the rows of bits.
use Rattle.std.proofs.Common.{◌≡◌, ◌<◌, ◌^◌, ◌∙◌, ℕ, zero, suc, ◌+◌, Bool, List, [], ◌∷◌, ◌++◌, length}
use Rattle.std.proofs.Common.{map, ap, subst, arith}
use Rattle.std.specs.List.{slice_get}
use Rattle.std.proofs.lemmas.List.{length-map}
use Rattle.language.specs.Tree.{Expression}
use Rattle.flow_graph.specs.Bits.{bit_of, coded}
use Rattle.flow_graph.specs.Formulas.{IsTruthTableIn, case_worth}
use Rattle.flow_graph.specs.Located.{worth}
use Rattle.flow_graph.specs.Tables.{HaveRow}
use Rattle.flow_graph.specs.declared.table.TruthTable.{TruthTable}
use Rattle.flow_graph.proofs.Rows.{have_own}
use Rattle.flow_graph.proofs.Stacks.{coded_small}

-- three bits have eight rows
pub three_have_eight : (f : ℕ → Bool) (bits : List ℕ) → length bits ≡ 3 → coded (map f bits) < 8
three_have_eight f bits three =
    let most : 2 ^ length (map f bits) ≡ 8 = ap (λ k. 2 ^ k) (length-map bits f ∙ three) in
    omega (arith, most, coded_small (map f bits))

module _ {A : Type 0} (bits : List ℕ) (e : Expression ℕ) where
  -- the tables are the expression's if the bits have the rows from this one on
  abbrev pub AreCases : ℕ → List (TruthTable A) → Type 0
  AreCases row [] = Unit {0}
  AreCases row (t ∷ ts) = IsTruthTableIn t bits row e × AreCases (suc row) ts

  pub one_more : (ts : List (TruthTable A)) (first row : ℕ) (t : TruthTable A) → AreCases first ts → row ≡ first + length ts →
      IsTruthTableIn t bits row e → AreCases first (ts ++ t ∷ [])
  one_more [] first row t cases at here =
      (subst (λ k. IsTruthTableIn t bits k e) (let z : row ≡ first = omega (arith, at) in z) here, tt)
  one_more (x ∷ ts) first row t cases at here = (cases.0, one_more ts (suc first) row t cases.1 (omega (arith, at)) here)

  pub case_says : (ts : List (TruthTable A)) (first row i v : ℕ) → AreCases first ts → row ≡ first + i → i < length ts →
      HaveRow bits row (bit_of v) → case_worth (slice_get ts i) v ≡ worth (bit_of v) e
  case_says [] first row i v cases at less have = absurd (omega (arith, less))
  case_says (t ∷ ts) first row zero v cases at less have =
      cases.0 v (subst (λ k. HaveRow bits k (bit_of v)) (let z : row ≡ first = omega (arith, at) in z) have)
  case_says (t ∷ ts) first row (suc i) v cases at less have =
      case_says ts (suc first) row i v cases.1 (omega (arith, at)) (omega (arith, less)) have

  pub cases_say : (ts : List (TruthTable A)) (v : ℕ) → AreCases 0 ts → length ts ≡ 8 → length bits ≡ 3
      → case_worth (slice_get ts (coded (map (bit_of v) bits))) v ≡ worth (bit_of v) e
  cases_say ts v cases all three =
      let small = three_have_eight (bit_of v) bits three in
      case_says ts 0 (coded (map (bit_of v) bits)) (coded (map (bit_of v) bits)) v cases (omega arith) (omega (arith, small, all))
      (have_own (bit_of v) bits)
