-- The sets of stacks of a turn, and their names among other nodes.
use Rattle.std.specs.Prelude.{◌≡◌}
use Rattle.turns.specs.Stacks.{Nodes, IsSimulation}
use Rattle.turns.specs.Turn.{Below, old, call, Item, head, caller, gone}

-- a set of stacks of a turn: what lies below some frame, or all with which the turn can end with these globals
pub data Part (Name Globals Frame : Type 0) : Type 0 where
  below : Below Name Globals Frame → Part Name Globals Frame
  ending : Globals → Part Name Globals Frame

module _ {Name Globals Frame : Type 0} (nodes : Nodes Name Frame) (Is : Item Name Globals Frame → Type 0) where
  -- where a set of items is given: the set has the empty stack
  abbrev pub PartIsBare : Part Name Globals Frame → Type 0
  PartIsBare (below (old q)) = nodes.Bare q
  PartIsBare (below (call g e)) = ⊥
  PartIsBare (ending g) = Is (gone g)

  -- where a set of items is given: the set has this head
  abbrev pub PartHas : Part Name Globals Frame → Frame → Part Name Globals Frame → Type 0
  PartHas (below (old q)) f b = (m : Name) × (b ≡ below (old m)) × nodes.Has q f m
  PartHas (below (call g e)) f b = (c : Below Name Globals Frame) × (b ≡ below c) × Is (caller g e f c)
  PartHas (ending g) f b = (c : Below Name Globals Frame) × (b ≡ below c) × Is (head g f c)

  -- the sets of stacks of a turn, as nodes
  abbrev pub parts_of : Nodes (Part Name Globals Frame) Frame
  parts_of = record { Bare = PartIsBare; Has = PartHas }

  -- Sets of a turn are named: each has the same stacks as the node that it is named by.
  pub record AreNamed {Other : Type 0} (after : Nodes Other Frame) (Named : Part Name Globals Frame → Other → Type 0) : Type 0 where
    pub there : IsSimulation parts_of after Named
    pub back : IsSimulation after parts_of (λ n part. Named part n)
