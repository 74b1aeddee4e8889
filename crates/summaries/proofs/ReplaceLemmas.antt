-- A list in which one item is replaced, or that has one more.
use Rattle.std.proofs.Common.{◌≡◌, ◌⊎◌, ℕ, zero, suc, List, [], ◌∷◌, ◌++◌, map, length, Some, slice_get, slice_set, inl, inr, refl}
use Rattle.std.proofs.Common.{sym, ap, subst, arith}
use Rattle.std.proofs.lemmas.Option.{none-some, same_Some}
use Rattle.post_ledger.proofs.Histories.{at_push_cases}

module _ {A : Type 0} where
  -- what is there is the item, or was there before
  pub set_get : (xs : List A) (i q : ℕ) (y x : A) → slice_get (slice_set xs i y) q ≡ Some x
      → ((q ≡ i) × (x ≡ y)) ⊎ ((q ≡ i → ⊥) × (slice_get xs q ≡ Some x))
  set_get [] i q y x e = absurd (none-some x e)
  set_get (z ∷ zs) zero zero y x e = inl (refl, sym (same_Some y x e))
  set_get (z ∷ zs) zero (suc q) y x e = inr (λ h. omega (arith, h), e)
  set_get (z ∷ zs) (suc i) zero y x e = inr (λ h. omega (arith, h), e)
  set_get (z ∷ zs) (suc i) (suc q) y x e =
      elim (set_get zs i q y x e) [ inl h ↦ inl (ap suc h.0, h.1) | inr h ↦ inr (λ n. h.0 (omega (arith, n)), h.1) ]

  -- what holds for each item and for the new one holds for each item then
  pub each_then : (P : ℕ → A → Type 0) (xs : List A) (i : ℕ) (y : A) → ((q : ℕ) (x : A) → slice_get xs q ≡ Some x → P q x) → P i y
      → (q : ℕ) (x : A) → slice_get (slice_set xs i y) q ≡ Some x → P q x
  each_then P xs i y each new q x e =
      elim (set_get xs i q y x e) [
        | inl h ↦ subst (λ m. P m x) (sym h.0) (subst (P i) (sym h.1) new)
        | inr h ↦ each q x h.1
      ]

  -- what holds for each item and for one more holds for each item then
  pub each_pushed : (P : ℕ → A → Type 0) (xs : List A) (y : A) → ((q : ℕ) (x : A) → slice_get xs q ≡ Some x → P q x) → P (length xs) y
      → (q : ℕ) (x : A) → slice_get (xs ++ y ∷ []) q ≡ Some x → P q x
  each_pushed P xs y each new q x e =
      elim (at_push_cases xs y x q e) [
        | inl h ↦ each q x h
        | inr h ↦ subst (λ m. P m x) (sym h.0) (subst (P (length xs)) h.1 new)
      ]

  -- a list whose images are at the places of another one of the same length has that one as its images
  pub map_is : {B : Type 0} (f : A → B) (xs : List A) (ys : List B) → length xs ≡ length ys
      → ((q : ℕ) (x : A) → slice_get xs q ≡ Some x → slice_get ys q ≡ Some (f x)) → map f xs ≡ ys
  map_is f [] [] long each = refl
  map_is f [] (y ∷ ys) long each = absurd (omega (arith, long))
  map_is f (x ∷ xs) [] long each = absurd (omega (arith, long))
  map_is f (x ∷ xs) (y ∷ ys) long each =
      let first : f x ≡ y = sym (same_Some y (f x) (each 0 x refl)) in
      let rest : map f xs ≡ ys = map_is f xs ys (omega (arith, long)) (λ q z e. each (suc q) z e) in
      λ j. first j ∷ rest j
