-- Sets of stacks that have all stacks of others.
use Rattle.std.specs.Prelude.{◌≡◌, ◌<◌, ◌⊎◌, ℕ, true, List, Some, length, slice_get}
use Rattle.language.specs.Lists.{Member}
use Rattle.turns.specs.Stacks.{InNode}
use Rattle.turns.specs.declared.numbered_frame.NumberedFrame.{NumberedFrame}
use Rattle.stack_sets.specs.Nodes.{by_number, head_over}
use Rattle.stack_sets.specs.declared.inclusions.Inclusions.{Inclusions}
use Rattle.stack_sets.specs.declared.inclusions.Pair.{Pair}
use Rattle.stack_sets.specs.declared.node.Head.{Head}
use Rattle.stack_sets.specs.declared.node.Node.{Node}

-- two nodes by number
abbrev pub pair_of : ℕ → ℕ → Pair
pair_of q r = record { under = q; over = r }

-- the pairs that are known to be such
abbrev pub found_in : {Alloc : Type 0} → Inclusions Alloc → List Pair
found_in inclusions = inclusions.found.keys

module _ {Alloc : Type 0} (nodes : List (Node Alloc)) where
  -- each stack of the first node is one of the second
  abbrev pub IsWithin : ℕ → ℕ → Type 0
  IsWithin q r = (stack : List NumberedFrame) → InNode (by_number nodes) q stack → InNode (by_number nodes) r stack

  -- each pair is of a node that is there, and one that has all its stacks
  abbrev pub AreWithin : List Pair → Type 0
  AreWithin pairs = (p : Pair) → Member p pairs → (p.under < length nodes) × IsWithin p.under p.over

module _ (pairs known : List Pair) where
  -- the two nodes are one, or a pair of either list
  abbrev pub IsUnder : ℕ → ℕ → Type 0
  IsUnder q r = (q ≡ r) ⊎ (Member (pair_of q r) known ⊎ Member (pair_of q r) pairs)

  -- some head has the same frame, over a node that is paired
  abbrev pub HasMatch : Head → List Head → Type 0
  HasMatch head heads = (n : ℕ) × Member (head_over head.frame n) heads × IsUnder head.below n

  module _ {Alloc : Type 0} where
    -- the second node has what the first has, over nodes that are paired
    abbrev pub HasAll : Node Alloc → Node Alloc → Type 0
    HasAll one other =
        (one.bare ≡ true → other.bare ≡ true)
        × ((f : NumberedFrame) (m : ℕ) → Member (head_over f m) one.heads.items → HasMatch (head_over f m) other.heads.items)

-- the nodes of a pair are there, and the second has what the first has, over nodes that are paired
abbrev pub Holds : {Alloc : Type 0} → List (Node Alloc) → List Pair → List Pair → Pair → Type 0
Holds {Alloc} nodes pairs known p =
    (one : Node Alloc) × (other : Node Alloc) × (slice_get nodes p.under ≡ Some one) × (slice_get nodes p.over ≡ Some other)
    × HasAll pairs known one other

-- the same of each of some pairs
abbrev pub EachHolds : {Alloc : Type 0} → List (Node Alloc) → List Pair → List Pair → List Pair → Type 0
EachHolds nodes pairs known some = (p : Pair) → Member p some → Holds nodes pairs known p
