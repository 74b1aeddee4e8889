-- The nodes of a turn's sets have what was found.
use Rattle.std.specs.Prelude.{◌≡◌, ◌⊎◌, ℕ, List, Some, slice_get}
use Rattle.turns.specs.Turn as turn
use Rattle.turns.specs.declared.numbered_frame.NumberedFrame.{NumberedFrame}
use Rattle.stack_sets.specs.Nodes.{by_number}
use Rattle.stack_sets.specs.declared.node.Node.{Node}
use Rattle.saturation.specs.Items.{Found, IsAmong}
use Rattle.saturation.specs.declared.item.Item.{Item}
use Rattle.naming.specs.Names.{put, HasName}
use Rattle.naming.specs.declared.named.Named.{Named}
use Rattle.naming.specs.declared.part.Part.{Part}
use Rattle.naming.specs.declared.part.Part.TheVariants.{Ending}

-- where a set of items is given: it has a stack with these globals
abbrev pub HasEnding : (Found → Type 0) → ℕ → Type 0
HasEnding Is g = Is (turn.gone g) ⊎ ((f : NumberedFrame) × (b : turn.Below ℕ ℕ NumberedFrame) × Is (turn.head g f b))

-- Where a set of items is given: the node of each set has the heads of its items, and no others; that of an ending is
-- bare if the stack may be empty then, and no other is bare.
pub record Holds {Alloc : Type 0} (Is : Found → Type 0) (base : ℕ) (parts : List Part) (nodes : List (Node Alloc)) : Type 0 where
  pub once : (i j : ℕ) (p : Part) → slice_get parts i ≡ Some p → slice_get parts j ≡ Some p → i ≡ j
  pub bare_only : (i : ℕ) → (by_number nodes).Bare i → (g : ℕ) × (slice_get parts i ≡ Some (Ending g)) × Is (turn.gone g)
  pub bare_all : (g : ℕ) → Is (turn.gone g) → (i : ℕ) × (slice_get parts i ≡ Some (Ending g)) × (by_number nodes).Bare i
  pub heads_only : (i : ℕ) (f : NumberedFrame) (m : ℕ) → (by_number nodes).Has i f m
      → (p : Part) × (b : turn.Below ℕ ℕ NumberedFrame) × (slice_get parts i ≡ Some p) × Is (put p f b) × HasName base parts b m
  pub heads_all : (p : Part) (f : NumberedFrame) (b : turn.Below ℕ ℕ NumberedFrame) → Is (put p f b)
      → (i : ℕ) × (m : ℕ) × (slice_get parts i ≡ Some p) × (by_number nodes).Has i f m × HasName base parts b m

-- each ending among the sets is that of an item
abbrev pub HaveSome : (Found → Type 0) → List Part → Type 0
HaveSome Is parts = (i g : ℕ) → slice_get parts i ≡ Some (Ending g) → HasEnding Is g

-- the nodes have what these items say
abbrev pub HoldsFor : {Alloc : Type 0} → ℕ → List Item → Named Alloc → Type 0
HoldsFor base items named = Holds (IsAmong items) base named.parts.keys named.nodes.items × HaveSome (IsAmong items) named.parts.keys
