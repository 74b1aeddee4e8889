-- Sets of stacks by number.
use Rattle.std.specs.Prelude.{◌≡◌, ◌++◌, ◌⊎◌, ℕ, Bool, true, Option, Some, None, List, [], ◌∷◌, slice_get}
use Rattle.language.specs.Lists.{Member}
use Rattle.turns.specs.Stacks.{Nodes}
use Rattle.turns.specs.declared.numbered_frame.NumberedFrame.{NumberedFrame}
use Rattle.stack_sets.specs.declared.node.Head.{Head}
use Rattle.stack_sets.specs.declared.node.Node.{Node}
use Rattle.stack_sets.specs.declared.stack_sets.StackSets.{StackSets}

-- a frame over the node with a number
abbrev pub head_over : NumberedFrame → ℕ → Head
head_over f n = record { frame = f; below = n }

module _ {Alloc : Type 0} where
  -- the nodes by their numbers
  abbrev pub nodes_in : StackSets Alloc → List (Node Alloc)
  nodes_in sets = sets.nodes.items

  -- there is a node, and it has the property
  abbrev pub AtNode : Option (Node Alloc) → (Node Alloc → Type 0) → Type 0
  AtNode None P = ⊥
  AtNode (Some node) P = P node

  -- the node of this number is bare or not, and has these heads
  abbrev pub IsNumbered : List (Node Alloc) → ℕ → Bool → List Head → Type 0
  IsNumbered nodes n bare heads = AtNode (slice_get nodes n) (λ node. (node.bare ≡ bare) × (node.heads.items ≡ heads))

  -- the two nodes are bare alike, and have the same heads
  abbrev pub IsSame : Node Alloc → Node Alloc → Type 0
  IsSame one other = (one.bare ≡ other.bare) × (one.heads.items ≡ other.heads.items)

  -- the node of this number has the content of the other
  abbrev pub HasContent : List (Node Alloc) → ℕ → Node Alloc → Type 0
  HasContent nodes n node = IsNumbered nodes n node.bare node.heads.items

  -- the one list goes on as the other does not
  abbrev pub IsPrefix : List (Node Alloc) → List (Node Alloc) → Type 0
  IsPrefix old new = (more : List (Node Alloc)) × (new ≡ old ++ more)

  -- the node was added behind the others, or none was
  abbrev pub MayAdd : Node Alloc → List (Node Alloc) → List (Node Alloc) → Type 0
  MayAdd node old new = (new ≡ old ++ node ∷ []) ⊎ (new ≡ old)

  -- the sets of stacks of nodes by number
  abbrev pub by_number : List (Node Alloc) → Nodes ℕ NumberedFrame
  by_number nodes = record {
    Bare = λ n. AtNode (slice_get nodes n) (λ node. node.bare ≡ true);
    Has = λ n f m. AtNode (slice_get nodes n) (λ node. Member (head_over f m) node.heads.items);
  }
