-- One turn of a thread, from globals and a node of stacks.
use Rattle.std.specs.Prelude.{List, [], ◌∷◌}
use Rattle.turns.specs.Machines.{Machine, Runs, TurnFails}
use Rattle.turns.specs.Stacks.{Nodes, InNode}

-- what lies below a frame in a turn: the stacks of a node from before, or those from which this frame is entered with
-- these globals in the turn
pub data Below (Name Globals Frame : Type 0) : Type 0 where
  old : Name → Below Name Globals Frame
  call : Globals → Frame → Below Name Globals Frame

-- what a turn finds: a head with these globals; a frame that waits below a call, which is named by its globals and its
-- first frame; or that the stack is empty with these globals
pub data Item (Name Globals Frame : Type 0) : Type 0 where
  head : Globals → Frame → Below Name Globals Frame → Item Name Globals Frame
  caller : Globals → Frame → Frame → Below Name Globals Frame → Item Name Globals Frame
  gone : Globals → Item Name Globals Frame

-- What a turn from these globals and this node finds: the least set that has the node's heads and is closed under the
-- steps of the top frames.
pub data Found {Name Globals Frame : Type 0} (machine : Machine Globals Frame) (nodes : Nodes Name Frame) (globals : Globals)
    (start : Name) :
    Item Name Globals Frame → Type 0 where
  starts : (f : Frame) (q : Name) → nodes.Has start f q → Found machine nodes globals start (head globals f (old q))
  is_gone : nodes.Bare start → Found machine nodes globals start (gone globals)
  moves : (g : Globals) (f : Frame) (h : Globals) (f' : Frame) (b : Below Name Globals Frame)
      → Found machine nodes globals start (head g f b) → machine.Moves g f h f' → Found machine nodes globals start (head h f' b)
  enters : (g : Globals) (f e w : Frame) (b : Below Name Globals Frame) → Found machine nodes globals start (head g f b)
      → machine.Calls g f e w → Found machine nodes globals start (head g e (call g e))
  stays : (g : Globals) (f e w : Frame) (b : Below Name Globals Frame) → Found machine nodes globals start (head g f b)
      → machine.Calls g f e w → Found machine nodes globals start (caller g e w b)
  returns : (g : Globals) (e : Frame) (i : Globals) (f w : Frame) (b : Below Name Globals Frame) (h : Globals) (f' : Frame)
      → Found machine nodes globals start (head i f (call g e)) → Found machine nodes globals start (caller g e w b)
      → machine.Returns i f w h f' → Found machine nodes globals start (head h f' b)
  comes_out : (g : Globals) (f : Frame) (q : Name) (w : Frame) (r : Name) (h : Globals) (f' : Frame)
      → Found machine nodes globals start (head g f (old q)) → nodes.Has q w r → machine.Returns g f w h f'
      → Found machine nodes globals start (head h f' (old r))
  goes : (g : Globals) (f : Frame) (q : Name) → Found machine nodes globals start (head g f (old q)) → nodes.Bare q → machine.Ends g f
      → Found machine nodes globals start (gone g)

module _ {Name Globals Frame : Type 0} (nodes : Nodes Name Frame) (Is : Item Name Globals Frame → Type 0) where
  -- where a set of items is given: the frames can lie there
  abbrev pub LiesBelow : Below Name Globals Frame → List Frame → Type 0
  LiesBelow (old q) fs = InNode nodes q fs
  LiesBelow (call g e) [] = ⊥
  LiesBelow (call g e) (w ∷ fs) = (b : Below Name Globals Frame) × Is (caller g e w b) × LiesBelow b fs

  -- where a set of items is given: the stack is one of its stacks with these globals
  abbrev pub IsStackOf : Globals → List Frame → Type 0
  IsStackOf g [] = Is (gone g)
  IsStackOf g (f ∷ fs) = (b : Below Name Globals Frame) × Is (head g f b) × LiesBelow b fs

module _ {Name Globals Frame : Type 0} (machine : Machine Globals Frame) (nodes : Nodes Name Frame) (globals : Globals) (start : Name) where
  -- a turn from these globals and some stack of the node can end with these globals and this stack
  abbrev pub TurnEnds : Globals → List Frame → Type 0
  TurnEnds g' stack' = (stack : List Frame) × InNode nodes start stack × Runs machine globals stack g' stack'

  -- some head that the turn finds fails
  abbrev pub SomeHeadFails : Type 0
  SomeHeadFails =
      (g : Globals) × (f : Frame) × (b : Below Name Globals Frame) × Found machine nodes globals start (head g f b) × machine.Fails g f

  -- a turn from some stack of the node comes to a frame that fails
  abbrev pub SomeStackFails : Type 0
  SomeStackFails = (stack : List Frame) × InNode nodes start stack × TurnFails machine globals stack
