-- A list with nothing twice is no longer than one that has all its members.
use Rattle.std.proofs.Common.{◌≡◌, ◌≤◌, ◌+◌, ◌⊎◌, List, [], ◌∷◌, length, inl, inr, refl, sym, ◌∙◌, subst, arith}
use Rattle.language.specs.Lists.{Member, NoneTwice}

module _ {A : Type 0} where
  -- the list without one member: shorter by one, with all the others
  without : (x : A) (ys : List A) → Member x ys
      → (zs : List A) × (length ys ≡ length zs + 1) × ((y : A) → Member y ys → (y ≡ x) ⊎ Member y zs)
  without x [] m = absurd m
  without x (y ∷ ys) (inl e) = (ys, omega arith, λ z m. elim m [ inl f ↦ inl (f ∙ sym e) | inr n ↦ inr n ])
  without x (y ∷ ys) (inr m) =
      let (zs, long, others) = without x ys m in (
        y ∷ zs,
        omega (arith, long),
        λ z n. elim n [ inl f ↦ inr (inl f) | inr k ↦ elim (others z k) [ inl f ↦ inl f | inr l ↦ inr (inr l) ] ],
      )

  -- the others are without it
  apart : (xs ys zs : List A) (x : A) → NoneTwice (x ∷ xs) → ((y : A) → Member y (x ∷ xs) → Member y ys)
      → ((y : A) → Member y ys → (y ≡ x) ⊎ Member y zs) → (y : A) → Member y xs → Member y zs
  apart xs ys zs x once all others y m =
      elim (others y (all y (inr m))) [ inl e ↦ absurd (once.0 (subst (λ z. Member z xs) e m)) | inr k ↦ k ]

  pub no_longer : (xs ys : List A) → NoneTwice xs → ((x : A) → Member x xs → Member x ys) → length xs ≤ length ys
  no_longer [] ys once all = omega arith
  no_longer (x ∷ xs) ys once all =
      let (zs, long, others) = without x ys (all x (inl refl)) in
      let rest = no_longer xs zs once.1 (apart xs ys zs x once all others) in
      omega (arith, long, rest)
