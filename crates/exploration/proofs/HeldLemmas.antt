-- Stacks of the nodes of a tuple.
use Rattle.std.proofs.Common.{◌≡◌, ◌⊎◌, ℕ, zero, suc, ◌+◌, ◌<◌, ◌≤◌, List, [], ◌∷◌, ◌++◌, length, set, get_or, inl, inr, refl, ap, arith}
use Rattle.language.specs.Lists.{Member}
use Rattle.turns.specs.Stacks.{InNode}
use Rattle.turns.specs.declared.numbered_frame.NumberedFrame.{NumberedFrame}
use Rattle.stack_sets.specs.Nodes.{by_number}
use Rattle.stack_sets.specs.declared.node.Node.{Node}
use Rattle.exploration.specs.Met.{Stacks, AreHeld}

-- what a list has after a write was written or was there
pub member_set : (q m i : ℕ) (qs : List ℕ) → Member q (set qs i m) → (q ≡ m) ⊎ Member q qs
member_set q m i [] is = absurd is
member_set q m zero (x ∷ qs) (inl e) = inl e
member_set q m zero (x ∷ qs) (inr is) = inr (inr is)
member_set q m (suc i) (x ∷ qs) (inl e) = inr (inl e)
member_set q m (suc i) (x ∷ qs) (inr is) = elim (member_set q m i qs is) [ inl e ↦ inl e | inr is ↦ inr (inr is) ]

-- what is read is there
pub member_get : (i : ℕ) (qs : List ℕ) → i < length qs → Member (get_or qs i 0) qs
member_get i [] small = absurd (omega (arith, small))
member_get zero (q ∷ qs) small = inl refl
member_get (suc i) (q ∷ qs) small = inr (member_get i qs (omega (arith, small)))

module _ {Alloc : Type 0} (nodes : List (Node Alloc)) where
  abbrev Has : ℕ → List NumberedFrame → Type 0
  Has q stack = InNode (by_number nodes) q stack

  abbrev Held : Stacks → List ℕ → Type 0
  Held stacks qs = AreHeld nodes stacks qs

  -- each node of a tuple has some stack
  abbrev pub AreFull : List ℕ → Type 0
  AreFull qs = (q : ℕ) → Member q qs → (stack : List NumberedFrame) × Has q stack

  pub held_at : (had : Stacks) (stack : List NumberedFrame) (left : Stacks) (qs : List ℕ) → Held (had ++ stack ∷ left) qs
      → Has (get_or qs (length had) 0) stack
  held_at [] stack left [] held = absurd held
  held_at [] stack left (q ∷ qs) held = held.0
  held_at (s ∷ had) stack left [] held = absurd held
  held_at (s ∷ had) stack left (q ∷ qs) held = held_at had stack left qs held.1

  pub held_set : (had : Stacks) (stack stack' : List NumberedFrame) (left : Stacks) (qs : List ℕ) (m : ℕ) → Held (had ++ stack ∷ left) qs
      → Has m stack' → Held (had ++ stack' ∷ left) (set qs (length had) m)
  held_set [] stack stack' left [] m held is = absurd held
  held_set [] stack stack' left (q ∷ qs) m held is = (is, held.1)
  held_set (s ∷ had) stack stack' left [] m held is = absurd held
  held_set (s ∷ had) stack stack' left (q ∷ qs) m held is = (held.0, held_set had stack stack' left qs m held.1 is)

  pub set_at : (had : Stacks) (stack : List NumberedFrame) (left : Stacks) (qs : List ℕ) (m : ℕ)
      → Held (had ++ stack ∷ left) (set qs (length had) m) → Has m stack
  set_at [] stack left [] m held = absurd held
  set_at [] stack left (q ∷ qs) m held = held.0
  set_at (s ∷ had) stack left [] m held = absurd held
  set_at (s ∷ had) stack left (q ∷ qs) m held = set_at had stack left qs m held.1

  pub held_back : (had : Stacks) (stack stack' : List NumberedFrame) (left : Stacks) (qs : List ℕ) (m : ℕ)
      → Held (had ++ stack' ∷ left) (set qs (length had) m) → Has (get_or qs (length had) 0) stack → Held (had ++ stack ∷ left) qs
  held_back [] stack stack' left [] m held is = absurd held
  held_back [] stack stack' left (q ∷ qs) m held is = (is, held.1)
  held_back (s ∷ had) stack stack' left [] m held is = absurd held
  held_back (s ∷ had) stack stack' left (q ∷ qs) m held is = (held.0, held_back had stack stack' left qs m held.1 is)

  -- some stacks of the first nodes
  fill : (k : ℕ) (qs : List ℕ) → AreFull qs → k ≤ length qs → (stacks : Stacks) × (length stacks ≡ k) × Held stacks qs
  fill zero qs full few = ([], refl, tt)
  fill (suc k) [] full few = absurd (omega (arith, few))
  fill (suc k) (q ∷ qs) full few =
      let (stack, is) = full q (inl refl) in
      let (stacks, n, held) = fill k qs (λ r m. full r (inr m)) (omega (arith, few)) in
      (stack ∷ stacks, ap suc n, (is, held))

  -- some stacks of the nodes around one
  pub around : (i k : ℕ) (qs : List ℕ) (stack : List NumberedFrame) → AreFull qs → i + suc k ≤ length qs → Has (get_or qs i 0) stack
      → (had : Stacks) × (left : Stacks) × (length had ≡ i) × (length left ≡ k) × Held (had ++ stack ∷ left) qs
  around i k [] stack full few is = absurd (omega (arith, few))
  around zero k (q ∷ qs) stack full few is =
      let (left, n, held) = fill k qs (λ r m. full r (inr m)) (omega (arith, few)) in
      ([], left, refl, n, (is, held))
  around (suc i) k (q ∷ qs) stack full few is =
      let (s, here) = full q (inl refl) in
      let (had, left, n, m, held) = around i k qs stack (λ r m. full r (inr m)) (omega (arith, few)) is in
      (s ∷ had, left, ap suc n, m, (here, held))
