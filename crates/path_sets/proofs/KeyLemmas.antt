-- Keys that are found in a list, and those that are in it.
use Rattle.std.proofs.Common.{Bool, ◌≡◌, true, false, List, [], ◌∷◌, None, is_some, inl, inr, refl, sym, ap, ◌∙◌, true≢false, ◌||◌}
use Rattle.std.specs.List.{list_any}
use Rattle.std.specs.Map.{keys_of, lookup}
use Rattle.std.proofs.lemmas.Map.Keys.{any_passes_from_place}
use Rattle.std.proofs.lemmas.Map.Made.{is_some-lookup}
use Rattle.language.specs.Lists.{Member}
use Rattle.path_sets.proofs.PlaceLemmas.{index_of}

module _ {K : Type 0} (eq : K → K → Bool) where
  -- a key that is found is in the list, if equal keys are the same
  pub found_is_in : ((x y : K) → eq x y ≡ true → x ≡ y) → (k : K) (ks : List K) → list_any (eq k) ks ≡ true →
      Member k ks
  found_is_in same k [] h = absurd (true≢false (sym h))
  found_is_in same k (x ∷ xs) h = by (eq k x) refl h (found_is_in same k xs)
    where
      by : (b : Bool) → eq k x ≡ b → (b || list_any (eq k) xs) ≡ true →
          (list_any (eq k) xs ≡ true → Member k xs) → Member k (x ∷ xs)
      by true e h rest = inl (same k x e)
      by false e h rest = inr (rest h)

  -- a key that is in the list is found
  pub is_found : ((x : K) → eq x x ≡ true) → (k : K) (ks : List K) → Member k ks → list_any (eq k) ks ≡ true
  is_found itself k ks m = let (i, at) = index_of ks k m in any_passes_from_place (eq k) ks i k at (itself k)

  -- so one that is not looked up is not one of them
  pub not_found : {V : Type 0} → ((x : K) → eq x x ≡ true) → (es : List (K × V)) (k : K) → lookup (eq k) es ≡ None
      → Member k (keys_of es) → ⊥
  not_found itself es k none there =
      true≢false (sym (is_found itself k (keys_of es) there) ∙ sym (is_some-lookup (eq k) es) ∙ ap is_some none)
