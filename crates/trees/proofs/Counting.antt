-- The steps of the loops that look for a name.
use Rattle.std.proofs.Common.{◌≡◌, ℕ, suc, ◌+◌, ◌<◌, ◌≤◌, Bool, true, false, List, [], ◌∷◌, length, drop, get_or, sym, ◌∙◌, ap, refl, arith}
use Rattle.std.proofs.lemmas.List.{drop_more, drop_all}
use Rattle.language.specs.Tree.{Name}
use Rattle.language.specs.Rest.{same_text}
use Rattle.language.specs.Resolve.{number_of, is_declared}

module _ {X : Type 0} (name : X → Name) (names : List X → List Name) (each : (x : X) (xs : List X) → names (x ∷ xs) ≡ name x ∷ names xs)
    (none : names [] ≡ []) where
  -- the names from a place on
  front : (l : List X) (i : ℕ) (x : X) → i < length l → x ≡ get_or l i x → names (drop i l) ≡ name x ∷ names (drop (i + 1) l)
  front l i x lt is = ap names (drop_more l i x lt ∙ ap (λ (y : X). y ∷ drop (i + 1) l) (sym is)) ∙ each x (drop (i + 1) l)

  no_more : (l : List X) (i : ℕ) → length l ≤ i → names (drop i l) ≡ []
  no_more l i le = ap names (drop_all i l le) ∙ none

  -- one that has another text is counted
  pub counted_on : (text : List ℕ) (l : List X) (i before all : ℕ) (x : X) → i < length l → x ≡ get_or l i x
      → same_text text (name x).text ≡ false
      → before + number_of text (names (drop i l)) ≡ all → (before + 1) + number_of text (names (drop (i + 1) l)) ≡ all
  counted_on text l i before all x lt is other h =
      let one : number_of text (names (drop i l)) ≡ suc (number_of text (names (drop (i + 1) l))) =
      ap (number_of text) (front l i x lt is) ∙ rw other refl in
      omega (arith, h, one)

  -- after the last, all are counted
  pub all_counted : (text : List ℕ) (l : List X) (i before all : ℕ) → length l ≤ i → before + number_of text (names (drop i l)) ≡ all
      → before ≡ all
  all_counted text l i before all le h = let zero = ap (number_of text) (no_more l i le) in omega (arith, h, zero)

  -- one that has another text is passed over
  pub looked_on : (text : List ℕ) (l : List X) (i : ℕ) (all : Bool) (x : X) → i < length l → x ≡ get_or l i x
      → same_text text (name x).text ≡ false
      → is_declared text (names (drop i l)) ≡ all → is_declared text (names (drop (i + 1) l)) ≡ all
  looked_on text l i all x lt is other h = sym (ap (is_declared text) (front l i x lt is) ∙ rw other refl) ∙ h

  -- one that has the text ends the count
  pub counted_at : (text : List ℕ) (l : List X) (i before all : ℕ) (x : X) → i < length l → x ≡ get_or l i x
      → same_text text (name x).text ≡ true → before + number_of text (names (drop i l)) ≡ all → before ≡ all
  counted_at text l i before all x lt is same h =
      let zero : number_of text (names (drop i l)) ≡ 0 = ap (number_of text) (front l i x lt is) ∙ rw same refl in omega (arith, h, zero)

  -- one that has the text is found
  pub looked_at : (text : List ℕ) (l : List X) (i : ℕ) (all : Bool) (x : X) → i < length l → x ≡ get_or l i x
      → same_text text (name x).text ≡ true → is_declared text (names (drop i l)) ≡ all → true ≡ all
  looked_at text l i all x lt is same h = sym (ap (is_declared text) (front l i x lt is) ∙ rw same refl) ∙ h

  -- after the last, none is found
  pub all_looked : (text : List ℕ) (l : List X) (i : ℕ) (all : Bool) → length l ≤ i → is_declared text (names (drop i l)) ≡ all
      → false ≡ all
  all_looked text l i all le h = sym (ap (is_declared text) (no_more l i le)) ∙ h
