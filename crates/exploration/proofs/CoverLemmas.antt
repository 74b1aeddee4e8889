-- Tuples that cover others.
use Rattle.std.proofs.Common.{ℕ, zero, suc, List, [], ◌∷◌, set, get_or, refl}
use Rattle.language.specs.Lists.{Member}
use Rattle.stack_sets.specs.Within.{IsWithin}
use Rattle.stack_sets.specs.declared.node.Node.{Node}
use Rattle.exploration.specs.declared.tuple.Tuple.{Tuple}
use Rattle.exploration.specs.Met.{Stacks, Adds, AreHeld, IsCovered, with_node}
use Rattle.exploration.proofs.TupleLemmas.{adds_keep}

module _ {Alloc : Type 0} (nodes : List (Node Alloc)) where
  -- a node of all stacks of another is put in its place
  held_within : (stacks : Stacks) (qs : List ℕ) (at r : ℕ) → IsWithin nodes (get_or qs at 0) r → AreHeld nodes stacks qs
      → AreHeld nodes stacks (set qs at r)
  held_within [] qs at r is held = tt
  held_within (s ∷ stacks) [] at r is held = absurd held
  held_within (s ∷ stacks) (q ∷ qs) zero r is held = (is s held.0, held.1)
  held_within (s ∷ stacks) (q ∷ qs) (suc at) r is held = (held.0, held_within stacks qs at r is held.1)

  -- a tuple covers itself
  pub covered_there : (tuples : List Tuple) (t : Tuple) → Member t tuples → IsCovered nodes tuples t
  covered_there tuples t m = (t, m, refl, refl, λ stacks held. held)

  -- and one that has another node of all stacks
  pub covered_with : (tuples : List Tuple) (t : Tuple) (at r : ℕ) → Member (with_node t at r) tuples
      → IsWithin nodes (get_or t.nodes at 0) r → IsCovered nodes tuples t
  covered_with tuples t at r m is = (with_node t at r, m, refl, refl, λ stacks held. held_within stacks t.nodes at r is held)

  -- a tuple that is covered stays so
  pub covered_keep : (P : Tuple → Type 0) (old new : List Tuple) → Adds P old new → (t : Tuple) → IsCovered nodes old t
      → IsCovered nodes new t
  covered_keep P old new adds t (other, m, same, same', all) = (other, adds_keep P old new adds other m, same, same', all)
