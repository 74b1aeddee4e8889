-- What is found by keys after one more value was added to a key.
use Rattle.std.proofs.Common.{◌≡◌, ◌⊎◌, Bool, true, false, List, [], ◌∷◌, ◌++◌, inl, inr, refl, sym, subst}
use Rattle.language.specs.Lists.{Member}
use Rattle.language.proofs.Members.{member_append, member_left, member_right}

last_or : {X : Type 0} (xs : List X) (y x : X) → Member x (xs ++ y ∷ []) → Member x xs ⊎ (x ≡ y)
last_or xs y x m = elim (member_append x xs (y ∷ []) m) [
  | inl was ↦ inl was
  | inr last ↦ elim last [ inl is ↦ inr is | inr none ↦ absurd none ]
]

module _ {K V : Type 0} (eq : K → K → Bool) (same : (x y : K) → eq x y ≡ true → x ≡ y) (before after : K → List V) (key : K) (value : V)
    (added : after key ≡ before key ++ value ∷ []) (others : (k : K) → eq key k ≡ false → after k ≡ before k) where
  -- each value is one from before, or the new one
  pub added_or : (k : K) (v : V) → Member v (after k) → Member v (before k) ⊎ ((key ≡ k) × (value ≡ v))
  added_or k v m = by (eq key k) refl
    where
      by : (b : Bool) → eq key k ≡ b → Member v (before k) ⊎ ((key ≡ k) × (value ≡ v))
      by true e =
          let is = same key k e in
          elim (last_or (before key) value v (subst (Member v) added (subst (λ j. Member v (after j)) (sym is) m)))
          [ inl was ↦ inl (subst (λ j. Member v (before j)) is was) | inr this ↦ inr (is, sym this) ]
      by false e = inl (subst (Member v) (others k e) m)

  -- each value from before stays
  pub added_keeps : (k : K) (v : V) → Member v (before k) → Member v (after k)
  added_keeps k v m = by (eq key k) refl
    where
      by : (b : Bool) → eq key k ≡ b → Member v (after k)
      by true e =
          let is = same key k e in
          subst (λ j. Member v (after j)) is
          (subst (Member v) (sym added) (member_left v (before key) (value ∷ []) (subst (λ j. Member v (before j)) (sym is) m)))
      by false e = subst (Member v) (sym (others k e)) m

  -- the new one is there
  pub added_is : Member value (after key)
  added_is = subst (Member value) (sym added) (member_right value (before key) (value ∷ []) (inl refl))
