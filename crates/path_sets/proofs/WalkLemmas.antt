-- Walks through decision diagrams, whatever bits a node tests.
use Rattle.std.proofs.Common.{◌≡◌, ℕ, zero, suc, ◌+◌, ◌-◌, ◌<◌, ◌≤◌, Bool, true, false, cond, nat_lt, nat_eq}
use Rattle.std.proofs.Common.{List, Option, Some, None, slice_get, refl, sym, ap, ◌∙◌, subst, arith, true≢false, is_some}
use Rattle.std.specs.Option.{option_map_or}
use Rattle.std.proofs.lemmas.Bool.{ltb-true, ltb-false}
use Rattle.path_sets.specs.Walks.{node_at, walk, reaches, Descends}

-- a number with a node is at least 2, and its node is two masks before
pub has_node : {X : Type 0} (ns : List X) (n : ℕ) (x : X) → node_at ns n ≡ Some x → (1 < n) × (slice_get ns (n - 2) ≡ Some x)
has_node {X} ns n x h = by (nat_lt n 2) refl h
  where
    by : (b : Bool) → nat_lt n 2 ≡ b → cond b None (slice_get ns (n - 2)) ≡ Some x → (1 < n) × (slice_get ns (n - 2) ≡ Some x)
    by true e h = absurd (true≢false (sym (ap is_some h)))
    by false e h = let least = ltb-false n 2 e in (omega (arith, least), h)

-- the node at an index has the number two above
pub number_of : {X : Type 0} (ns : List X) (i : ℕ) (x : X) → slice_get ns i ≡ Some x → node_at ns (i + 2) ≡ Some x
number_of {X} ns i x h = by (nat_lt (i + 2) 2) refl
  where
    by : (b : Bool) → nat_lt (i + 2) 2 ≡ b → cond b None (slice_get ns (i + 2 - 2)) ≡ Some x
    by true e = let less = ltb-true (i + 2) 2 e in absurd (omega (arith, less))
    by false e = let same : i + 2 - 2 ≡ i = omega arith in ap (slice_get ns) same ∙ h

-- the node two masks before a number is its node
pub node_of : {X : Type 0} (ns : List X) (n : ℕ) (x : X) → 1 < n → slice_get ns (n - 2) ≡ Some x → node_at ns n ≡ Some x
node_of ns n x big h = let same : n - 2 + 2 ≡ n = omega (arith, big) in subst (λ k. node_at ns k ≡ Some x) same
    (number_of ns (n - 2) x h)

module _ {X : Type 0} (next : X → ℕ → ℕ) (ns : List X) (down : Descends next ns) where
  -- a step goes down
  pub next_below : (n v : ℕ) (x : X) → node_at ns n ≡ Some x → next x v < n
  next_below n v x h = let k = has_node ns n x h in let d = down (n - 2) v x k.1 in let big = k.0 in omega (arith, big, d)

  -- a walk with enough steps ends where one with more ends
  pub enough : (f g n v : ℕ) → n ≤ f → n ≤ g → walk next ns f n v ≡ walk next ns g n v
  unfolding walk
  enough zero zero n v a b = refl
  enough zero (suc g) n v a b =
      let z : n ≡ 0 = omega (arith, a) in subst (λ k. nat_eq k 1 ≡ walk next ns (suc g) k v) (sym z) refl
  enough (suc f) zero n v a b =
      let z : n ≡ 0 = omega (arith, b) in subst (λ k. walk next ns (suc f) k v ≡ nat_eq k 1) (sym z) refl
  enough (suc f) (suc g) n v a b = by (node_at ns n) refl (λ x h. enough f g (next x v) v)
    where
      by : (o : Option X) → node_at ns n ≡ o → ((x : X) → node_at ns n ≡ Some x → next x v ≤ f → next x v ≤ g
          → walk next ns f (next x v) v ≡ walk next ns g (next x v) v)
          → option_map_or (λ x. walk next ns f (next x v) v) o (nat_eq n 1)
          ≡ option_map_or (λ x. walk next ns g (next x v) v) o (nat_eq n 1)
      by None e rest = refl
      by (Some x) e rest = let less = next_below n v x e in rest x e (omega (arith, less, a)) (omega (arith, less, b))

  -- a node's set is that of the number to which the valuation continues
  pub goes_on : (n v : ℕ) (x : X) → node_at ns n ≡ Some x → reaches next ns n v ≡ reaches next ns (next x v) v
  unfolding reaches walk
  goes_on zero v x h = absurd (let k = has_node ns zero x h in omega (arith, k.0))
  goes_on (suc n) v x h =
      ap (λ o. option_map_or (λ y. walk next ns n (next y v) v) o (nat_eq (suc n) 1)) h
      ∙ (let less = next_below (suc n) v x h in enough n (next x v) (next x v) v (omega (arith, less)) (omega arith))

-- 0 has no valuation, and 1 has all
pub at_leaf : {X : Type 0} (next : X → ℕ → ℕ) (ns : List X) (n v : ℕ) → n ≤ 1 → reaches next ns n v ≡ nat_eq n 1
unfolding reaches walk
at_leaf next ns zero v h = refl
at_leaf next ns (suc zero) v h = refl
at_leaf next ns (suc (suc n)) v h = absurd (omega (arith, h))
