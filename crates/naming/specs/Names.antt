-- A turn's sets of stacks, and the numbers of their nodes.
use Rattle.std.specs.Prelude.{◌≡◌, ◌+◌, ◌++◌, ◌⊎◌, ◌↔◌, ℕ, zero, suc, List, [], ◌∷◌, Some, true, false, length, slice_get, slice_set}
use Rattle.language.specs.Lists.{Member}
use Rattle.turns.specs.Turn as turn
use Rattle.turns.specs.declared.numbered_frame.NumberedFrame.{NumberedFrame}
use Rattle.stack_sets.specs.Turns.{ending}
use Rattle.stack_sets.specs.declared.node.Head.{Head}
use Rattle.stack_sets.specs.declared.node.Node.{Node}
use Rattle.stack_sets.specs.declared.turn.Ending as sets
use Rattle.saturation.specs.Items.{Found}
use Rattle.saturation.specs.declared.item.Below.{Below}
use Rattle.saturation.specs.declared.item.Below.TheVariants as below
use Rattle.naming.specs.declared.named.Named.{Named}
use Rattle.naming.specs.declared.part.Part.{Part}
use Rattle.naming.specs.declared.part.Part.TheVariants.{Call, Ending}

-- what is found when a frame over this is in the set
abbrev pub put : Part → NumberedFrame → turn.Below ℕ ℕ NumberedFrame → Found
put (Call entry) f b = turn.caller entry.globals entry.frame f b
put (Ending g) f b = turn.head g f b

module _ (base : ℕ) (parts : List Part) where
  -- the set is there, and this is the number of its node, behind those that were there before
  abbrev pub IsAt : Part → ℕ → Type 0
  IsAt part n = (i : ℕ) × (slice_get parts i ≡ Some part) × (n ≡ base + i)

  -- what lies below a frame has this number: a node from before its own, and a call that of its set
  abbrev pub HasName : turn.Below ℕ ℕ NumberedFrame → ℕ → Type 0
  HasName (turn.old q) n = n ≡ q
  HasName (turn.call g e) n = IsAt (Call (record { globals = g; frame = e })) n

-- the ending with these globals is among the sets, and this is the number of its node among those that are given
abbrev pub IsEndingAt : List ℕ → List Part → ℕ → ℕ → Type 0
IsEndingAt names parts h m = (i : ℕ) × (slice_get parts i ≡ Some (Ending h)) × (slice_get names i ≡ Some m)

-- the endings are those of the sets, each with the number of its node
abbrev pub AreListed : List ℕ → List Part → List sets.Ending → Type 0
AreListed names parts endings = (h m : ℕ) → Member (ending h m) endings ↔ IsEndingAt names parts h m

-- the set with this number is listed if it is an ending
abbrev pub IsListed : ℕ → Part → List sets.Ending → List sets.Ending → Type 0
IsListed n (Call entry) old new = new ≡ old
IsListed n (Ending g) old new = new ≡ old ++ ending g n ∷ []

-- how many of the sets are endings
abbrev pub endings_in : List Part → ℕ
endings_in [] = zero
endings_in (Call entry ∷ parts) = endings_in parts
endings_in (Ending g ∷ parts) = suc (endings_in parts)

module _ {Alloc : Type 0} where
  -- there is a node for each set
  abbrev pub IsLevel : Named Alloc → Type 0
  IsLevel named = length named.nodes.items ≡ length named.parts.keys

  -- nothing is added
  abbrev pub Stays : Named Alloc → Named Alloc → Type 0
  Stays old new = (new.parts.keys ≡ old.parts.keys) × (new.nodes.items ≡ old.nodes.items)

  -- the set is new, and is added with an empty node
  abbrev pub IsNew : Part → Named Alloc → Named Alloc → Type 0
  IsNew part old new = (Member part old.parts.keys → ⊥) × (new.parts.keys ≡ old.parts.keys ++ part ∷ []) × (node : Node Alloc)
      × (node.bare ≡ false) × (node.heads.items ≡ []) × (new.nodes.items ≡ old.nodes.items ++ node ∷ [])

  -- the set is added if it is new
  abbrev pub AddsPart : Part → Named Alloc → Named Alloc → Type 0
  AddsPart part old new = Stays old new ⊎ IsNew part old new

  -- the set of what lies below is added if it is a new call
  abbrev pub AddsBelow : Below → Named Alloc → Named Alloc → Type 0
  AddsBelow (below.Old q) old new = Stays old new
  AddsBelow (below.Call entry) old new = AddsPart (Call entry) old new

  -- the head is put on the node at an index
  abbrev pub IsPut : Head → List (Node Alloc) → ℕ → List (Node Alloc) → Type 0
  IsPut head old i new = (x : Node Alloc) × (y : Node Alloc) × (slice_get old i ≡ Some x) × (new ≡ slice_set old i y) × (y.bare ≡ x.bare)
      × (y.heads.items ≡ x.heads.items ++ head ∷ [])

  -- the node at an index has the empty stack then
  abbrev pub IsBared : List (Node Alloc) → ℕ → List (Node Alloc) → Type 0
  IsBared old i new = (x : Node Alloc) × (y : Node Alloc) × (slice_get old i ≡ Some x) × (new ≡ slice_set old i y) × (y.bare ≡ true)
      × (y.heads.items ≡ x.heads.items)
