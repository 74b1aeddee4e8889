-- Items of lists by their places.
use Rattle.std.proofs.Common.{◌≡◌, ◌<◌, ℕ, zero, suc, List, [], ◌∷◌, ◌++◌, Some, length, slice_get, slice_set, map}
use Rattle.std.proofs.Common.{inl, inr, refl, sym, ap, ◌∙◌, arith, ◌⊎◌}
use Rattle.std.specs.Prelude.{IsPermutation}
use Rattle.std.specs.List.{Contains}
use Rattle.std.specs.Option.{option_map}
use Rattle.std.proofs.lemmas.List.Sorted.{Contains-permutation}
use Rattle.std.proofs.lemmas.Option.{get_or_from_slice_get, none-some, same_Some, slice_get-get_or, slice_get_within, slice_get-map}
use Rattle.language.specs.Lists.{Member}
use Rattle.language.proofs.Members.{member_append}

module _ {X : Type 0} where
  -- there is an item at each index
  pub item_there : (xs : List X) (i : ℕ) → i < length xs → (x : X) × (slice_get xs i ≡ Some x)
  item_there [] i less = absurd (omega (arith, less))
  item_there (x ∷ xs) zero less = (x, refl)
  item_there (x ∷ xs) (suc i) less = item_there xs i (omega (arith, less))

  -- a member is at some index
  pub index_of : (xs : List X) (x : X) → Member x xs → (i : ℕ) × (slice_get xs i ≡ Some x)
  index_of [] x h = elim h [ ]
  index_of (y ∷ xs) x (inl is) = (zero, ap Some (sym is))
  index_of (y ∷ xs) x (inr later) = let r = index_of xs x later in (suc r.0, r.1)

  -- and what is at an index is a member
  pub at_index : (xs : List X) (x : X) (i : ℕ) → slice_get xs i ≡ Some x → Member x xs
  at_index [] x i h = absurd (none-some x h)
  at_index (y ∷ xs) x zero h = inl (sym (same_Some y x h))
  at_index (y ∷ xs) x (suc i) h = inr (at_index xs x i h)

  -- a member of a list with one more was there, or is that one
  pub last_or : (xs : List X) (y x : X) → Member x (xs ++ y ∷ []) → Member x xs ⊎ (x ≡ y)
  last_or xs y x m = elim (member_append x xs (y ∷ []) m) [
    | inl was ↦ inl was
    | inr last ↦ elim last [ inl is ↦ inr is | inr none ↦ elim none [ ] ]
  ]

  -- a list that is longer than a number has a member
  pub some_member : (xs : List X) (n : ℕ) → n < length xs → (x : X) × Member x xs
  some_member xs n long = let (x, at) = item_there xs n long in (x, at_index xs x n at)

  -- what is there stays there when more is appended
  pub still_there : (xs ys : List X) (i : ℕ) (x : X) → slice_get xs i ≡ Some x → slice_get (xs ++ ys) i ≡ Some x
  still_there [] ys i x at = absurd (none-some x at)
  still_there (y ∷ xs) ys zero x at = at
  still_there (y ∷ xs) ys (suc i) x at = still_there xs ys i x at

  -- what is set is there, and the others stay
  pub set_there : (xs : List X) (k : ℕ) (x : X) → k < length xs → slice_get (slice_set xs k x) k ≡ Some x
  set_there [] k x less = absurd (omega (arith, less))
  set_there (y ∷ xs) zero x less = refl
  set_there (y ∷ xs) (suc k) x less = set_there xs k x (omega (arith, less))

  pub set_elsewhere : (xs : List X) (k : ℕ) (x : X) (j : ℕ) → (j ≡ k → ⊥) → slice_get (slice_set xs k x) j ≡ slice_get xs j
  set_elsewhere [] k x j ne = refl
  set_elsewhere (y ∷ xs) zero x zero ne = absurd (ne refl)
  set_elsewhere (y ∷ xs) zero x (suc j) ne = refl
  set_elsewhere (y ∷ xs) (suc k) x zero ne = refl
  set_elsewhere (y ∷ xs) (suc k) x (suc j) ne = set_elsewhere xs k x j (λ same. ne (ap suc same))

  -- what is among items is among them in another order
  pub reordered : (xs ys : List X) (x : X) → IsPermutation xs ys → Member x xs → Member x ys
  reordered xs ys x order there =
      let (i, at) = index_of xs x there in
      let had : Contains xs x = (i, slice_get_within xs i x at, get_or_from_slice_get xs i x x at) in
      let (j, within, same) = Contains-permutation xs ys x order had in
      at_index ys x j (slice_get-get_or ys j x within ∙ ap Some same)

-- the image of what is there is there, and nothing else is
module _ {X Y : Type 0} (f : X → Y) where
  pub get_map : (xs : List X) (i : ℕ) (x : X) → slice_get xs i ≡ Some x → slice_get (map f xs) i ≡ Some (f x)
  get_map xs i x at = slice_get-map f xs i ∙ ap (option_map f) at

  pub got_map : (xs : List X) (i : ℕ) (y : Y) → slice_get (map f xs) i ≡ Some y → (x : X) × (slice_get xs i ≡ Some x) × (f x ≡ y)
  got_map [] i y at = absurd (none-some y at)
  got_map (x ∷ xs) zero y at = (x, refl, same_Some (f x) y at)
  got_map (x ∷ xs) (suc i) y at = got_map xs i y at
