-- Later targets: which of them has a bit, and whether the bit lasts.
use Rattle.std.proofs.Common.{◌≡◌, ◌<◌, ℕ, ◌+◌, eqb, Bool, true, cond, Option, Some, None, List, ◌∷◌, map, drop, get_or, length}
use Rattle.std.proofs.Common.{refl, sym, ◌∙◌, ap}
use Rattle.std.specs.Option.{option_eq}
use Rattle.std.proofs.lemmas.List.{drop_more}
use Rattle.language.specs.Resolve.{Scope}
use Rattle.trees.specs.Trees.{name_of, names_of}
use Rattle.trees.specs.declared.tree.Name as syntax
use Rattle.flow_graph.specs.Assignments.{is_bit, is_among, lasting}
use Rattle.flow_graph.specs.Located.{bit_of_name}

-- to be the same bit is to be this one
pub same_bit : (b : ℕ) (o : Option ℕ) → option_eq eqb o (Some b) ≡ is_bit b o
same_bit b None = refl
same_bit b (Some c) = refl

module _ {N : Type 0} (s : Scope) (later : List (syntax.Name N)) (b : ℕ) where
  -- whether the bit is among those of the targets from some place on, by the first of them
  pub among_next : (i : ℕ) (x : syntax.Name N) (found : Bool) → i < length later → x ≡ get_or later i x →
      is_bit b (bit_of_name s (name_of x)) ≡ found →
      is_among b (map (bit_of_name s) (names_of (drop i later)))
      ≡ cond found true (is_among b (map (bit_of_name s) (names_of (drop (i + 1) later))))
  among_next i x found less is same =
      ap (λ l. is_among b (map (bit_of_name s) (names_of l)))
      (drop_more later i x less ∙ ap (λ y. y ∷ drop (i + 1) later) (sym is))
      ∙ ap (λ f. cond f true (is_among b (map (bit_of_name s) (names_of (drop (i + 1) later))))) same

-- a bit that is found among those of later targets does not last, and another does
pub lasts : (b : ℕ) (o : Option ℕ) (ts : List (Option ℕ)) (found : Bool) → o ≡ Some b → is_among b ts ≡ found →
    lasting o ts ≡ cond found None (Some b)
lasts b o ts found is among = ap (λ p. lasting p ts) is ∙ ap (λ f. cond f None (Some b)) among
