-- What stands at a place of a list that goes on, or of which one item is changed.
use Rattle.std.proofs.Common.{◌≡◌, ◌⊎◌, ◌++◌, ℕ, zero, suc, List, [], ◌∷◌, Some, slice_get, length, inl, inr, refl, sym, ap, ◌∙◌}
use Rattle.std.specs.Prelude.{slice_set, IsPermutation}
use Rattle.std.specs.List.{Contains}
use Rattle.std.proofs.lemmas.List.Sorted.{Contains-permutation}
use Rattle.std.proofs.lemmas.Option.{get_or_from_slice_get, none-some, same_Some, slice_get-get_or, slice_get_within}
use Rattle.language.specs.Lists.{Member}

module _ {A : Type 0} where
  pub get_left : (xs ys : List A) (i : ℕ) (x : A) → slice_get xs i ≡ Some x → slice_get (xs ++ ys) i ≡ Some x
  get_left [] ys i x at = absurd (none-some x at)
  get_left (z ∷ xs) ys zero x at = at
  get_left (z ∷ xs) ys (suc i) x at = get_left xs ys i x at

  pub get_last : (xs : List A) (y : A) (i : ℕ) (x : A) → slice_get (xs ++ y ∷ []) i ≡ Some x
      → (slice_get xs i ≡ Some x) ⊎ ((i ≡ length xs) × (y ≡ x))
  get_last [] y zero x at = inr (refl, same_Some y x at)
  get_last [] y (suc i) x at = absurd (none-some x at)
  get_last (z ∷ xs) y zero x at = inl at
  get_last (z ∷ xs) y (suc i) x at = elim (get_last xs y i x at) [ inl here ↦ inl here | inr (e, same) ↦ inr (ap suc e, same) ]

  pub get_member : (xs : List A) (i : ℕ) (x : A) → slice_get xs i ≡ Some x → Member x xs
  get_member [] i x at = absurd (none-some x at)
  get_member (z ∷ xs) zero x at = inl (sym (same_Some z x at))
  get_member (z ∷ xs) (suc i) x at = inr (get_member xs i x at)

  index_of : (xs : List A) (x : A) → Member x xs → (i : ℕ) × (slice_get xs i ≡ Some x)
  index_of [] x m = absurd m
  index_of (z ∷ xs) x (inl same) = (zero, ap Some (sym same))
  index_of (z ∷ xs) x (inr m) = let (i, at) = index_of xs x m in (suc i, at)

  -- a member is one in another order too
  pub reordered : (xs ys : List A) (x : A) → IsPermutation xs ys → Member x xs → Member x ys
  reordered xs ys x order m =
      let (i, at) = index_of xs x m in
      let had : Contains xs x = (i, slice_get_within xs i x at, get_or_from_slice_get xs i x x at) in
      let (j, small, same) = Contains-permutation xs ys x order had in
      get_member ys j x (slice_get-get_or ys j x small ∙ ap Some same)

  pub set_here : (xs : List A) (i : ℕ) (x y : A) → slice_get xs i ≡ Some x → slice_get (slice_set xs i y) i ≡ Some y
  set_here [] i x y at = absurd (none-some x at)
  set_here (z ∷ xs) zero x y at = refl
  set_here (z ∷ xs) (suc i) x y at = set_here xs i x y at
