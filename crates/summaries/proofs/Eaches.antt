-- What holds for some item of a list.
use Rattle.std.proofs.Common.{ℕ, ◌+◌, ◌<◌, ◌≡◌, ◌≢◌, Bool, true, false, List, [], ◌∷◌, ◌++◌, ◌⊎◌, sym, ap, ◌∙◌}
use Rattle.std.proofs.Common.{inl, inr, refl, subst, length, take, drop, get_or}
use Rattle.std.specs.Bool.{OnTrue, OnFalse}
use Rattle.std.proofs.lemmas.List.{take-append-drop, take_more}
use Rattle.language.specs.Lists.{Member}
use Rattle.language.proofs.Members.{member_left, member_right}
use Rattle.summaries.specs.Grows.{OfSome}
use Rattle.path_sets.proofs.PlaceLemmas.{last_or}

module _ {X T : Type 0} (W : X → T → Type 0) where
  -- for a part of the items, so for all
  pub each_left : (xs ys : List X) (t : T) → OfSome W xs t → OfSome W (xs ++ ys) t
  each_left xs ys t w = (w.0, member_left w.0 xs ys w.1, w.2)

  -- for the last item, so for all
  pub each_last : (xs : List X) (x : X) (t : T) → W x t → OfSome W (xs ++ x ∷ []) t
  each_last xs x t w = (x, member_right x xs (x ∷ []) (inl refl), w)

  -- for the items before the last, or for the last
  pub each_or_last : (xs : List X) (x : X) (t : T) → OfSome W (xs ++ x ∷ []) t → OfSome W xs t ⊎ W x t
  each_or_last xs x t w =
      elim (last_or xs x w.0 w.1) [ inl n ↦ inl (w.0, n, w.2) | inr e ↦ inr (subst (λ y. W y t) e w.2) ]

  module _ (xs : List X) (i : ℕ) where
    -- for the first items, so for all
    pub each_first : (t : T) → OfSome W (take i xs) t → OfSome W xs t
    each_first t w = subst (λ l. OfSome W l t) (take-append-drop i xs) (each_left (take i xs) (drop i xs) t w)

    -- for the item at a place, so for all
    pub each_at : (d : X) → i < length xs → (t : T) → W (get_or xs i d) t → OfSome W xs t
    each_at d within t w =
        subst (λ l. OfSome W l t) (ap (λ l. l ++ drop (i + 1) xs) (sym (take_more xs i d within)) ∙ take-append-drop (i + 1) xs)
        (each_left (take i xs ++ get_or xs i d ∷ []) (drop (i + 1) xs) t (each_last (take i xs) (get_or xs i d) t w))

  -- for the item at a place, or before it, or otherwise, so for all or otherwise
  pub each_until : (xs : List X) (i : ℕ) (d : X) → i < length xs → (t : T) {Mid Old : Type 0} → W (get_or xs i d) t ⊎ Mid →
      (Mid → OfSome W (take i xs) t ⊎ Old) → OfSome W xs t ⊎ Old
  each_until xs i d within t (inl w) before = inl (each_at xs i d within t w)
  each_until xs i d within t (inr mid) before = elim (before mid) [ inl first ↦ inl (each_first xs i t first) | inr was ↦ inr was ]

-- what holds if there is no item holds if the list is empty
pub where_none : {X P : Type 0} (xs : List X) (b : Bool) → OnFalse b (xs ≡ []) →
    (((x : X) → Member x xs → ⊥) → P) → OnFalse b P
where_none xs true none p = tt
where_none xs false none p = p (λ x m. subst (Member x) none m)

-- what holds if there is some item holds if the list is not empty
pub where_some : {X P : Type 0} (xs : List X) (b : Bool) → OnTrue b (xs ≢ []) → ((x : X) → Member x xs → P) → OnTrue b P
where_some xs false some p = tt
where_some [] true some p = absurd (some refl)
where_some (x ∷ xs) true some p = p x (inl refl)
