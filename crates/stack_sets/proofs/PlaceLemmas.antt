-- What holds of the node at a place of a list that goes on, or of which one node is changed.
use Rattle.std.proofs.Common.{◌≡◌, ◌⊎◌, ◌<◌, ◌+◌, ◌++◌, ℕ, zero, suc, List, [], ◌∷◌, Some, slice_get, length, inl, inr, refl, sym, ap}
use Rattle.std.proofs.Common.{subst, arith}
use Rattle.std.specs.Prelude.{slice_set}
use Rattle.stack_sets.specs.Nodes.{AtNode}
use Rattle.stack_sets.specs.declared.node.Node.{Node}

module _ {Alloc : Type 0} (P : Node Alloc → Type 0) where
  pub at_is : (xs : List (Node Alloc)) (i : ℕ) (x : Node Alloc) → slice_get xs i ≡ Some x → P x → AtNode (slice_get xs i) P
  at_is xs i x at p = subst (λ o. AtNode o P) (sym at) p

  pub is_at : (xs : List (Node Alloc)) (i : ℕ) (x : Node Alloc) → slice_get xs i ≡ Some x → AtNode (slice_get xs i) P → P x
  is_at xs i x at p = subst (λ o. AtNode o P) at p

  pub at_left : (xs ys : List (Node Alloc)) (i : ℕ) → AtNode (slice_get xs i) P → AtNode (slice_get (xs ++ ys) i) P
  at_left [] ys i at = absurd at
  at_left (x ∷ xs) ys zero at = at
  at_left (x ∷ xs) ys (suc i) at = at_left xs ys i at

  pub at_within : (xs : List (Node Alloc)) (i : ℕ) → AtNode (slice_get xs i) P → i < length xs
  at_within [] i at = absurd at
  at_within (x ∷ xs) zero at = omega arith
  at_within (x ∷ xs) (suc i) at = let rest : i < length xs = at_within xs i at in omega (arith, rest)

  -- one before the end of the first list
  pub at_before : (xs ys : List (Node Alloc)) (i : ℕ) → i < length xs → AtNode (slice_get (xs ++ ys) i) P → AtNode (slice_get xs i) P
  at_before [] ys i small at = absurd (omega (arith, small))
  at_before (x ∷ xs) ys zero small at = at
  at_before (x ∷ xs) ys (suc i) small at = at_before xs ys i (omega (arith, small)) at

  -- one behind it
  pub at_right : (xs ys : List (Node Alloc)) (i : ℕ) → AtNode (slice_get ys i) P → AtNode (slice_get (xs ++ ys) (length xs + i)) P
  at_right [] ys i at = let e : i ≡ zero + i = omega arith in subst (λ k. AtNode (slice_get ys k) P) e at
  at_right (x ∷ xs) ys i at =
      let e : suc (length xs + i) ≡ suc (length xs) + i = omega arith in
      subst (λ k. AtNode (slice_get (x ∷ (xs ++ ys)) k) P) e (at_right xs ys i at)

  pub right_at : (xs ys : List (Node Alloc)) (i : ℕ) → AtNode (slice_get (xs ++ ys) (length xs + i)) P → AtNode (slice_get ys i) P
  right_at [] ys i at = let e : zero + i ≡ i = omega arith in subst (λ k. AtNode (slice_get ys k) P) e at
  right_at (x ∷ xs) ys i at =
      let e : suc (length xs) + i ≡ suc (length xs + i) = omega arith in
      right_at xs ys i (subst (λ k. AtNode (slice_get (x ∷ (xs ++ ys)) k) P) e at)

  -- one of either list
  pub at_either : (xs ys : List (Node Alloc)) (n : ℕ) → AtNode (slice_get (xs ++ ys) n) P
      → AtNode (slice_get xs n) P ⊎ ((i : ℕ) × AtNode (slice_get ys i) P)
  at_either [] ys n at = inr (n, at)
  at_either (x ∷ xs) ys zero at = inl at
  at_either (x ∷ xs) ys (suc n) at = at_either xs ys n at

  pub at_last : (xs : List (Node Alloc)) (y : Node Alloc) (i : ℕ) → AtNode (slice_get (xs ++ y ∷ []) i) P → AtNode (slice_get xs i) P ⊎ P y
  at_last [] y zero at = inr at
  at_last [] y (suc i) at = absurd at
  at_last (x ∷ xs) y zero at = inl at
  at_last (x ∷ xs) y (suc i) at = at_last xs y i at

  -- one of a list of which the one at i is changed
  pub set_at : (xs : List (Node Alloc)) (i : ℕ) (y : Node Alloc) (j : ℕ) → AtNode (slice_get (slice_set xs i y) j) P
      → AtNode (slice_get xs j) P ⊎ ((j ≡ i) × P y)
  set_at [] i y j at = absurd at
  set_at (x ∷ xs) zero y zero at = inr (refl, at)
  set_at (x ∷ xs) zero y (suc j) at = inl at
  set_at (x ∷ xs) (suc i) y zero at = inl at
  set_at (x ∷ xs) (suc i) y (suc j) at = elim (set_at xs i y j at) [ inl other ↦ inl other | inr (e, p) ↦ inr (ap suc e, p) ]

  pub at_set : (xs : List (Node Alloc)) (i : ℕ) (y : Node Alloc) (j : ℕ) → AtNode (slice_get xs j) P
      → AtNode (slice_get (slice_set xs i y) j) P ⊎ (j ≡ i)
  at_set [] i y j at = absurd at
  at_set (x ∷ xs) zero y zero at = inr refl
  at_set (x ∷ xs) zero y (suc j) at = inl at
  at_set (x ∷ xs) (suc i) y zero at = inl at
  at_set (x ∷ xs) (suc i) y (suc j) at = elim (at_set xs i y j at) [ inl other ↦ inl other | inr e ↦ inr (ap suc e) ]
