-- Sets of items that have all that a turn finds.
use Rattle.turns.specs.Machines.{Machine}
use Rattle.turns.specs.Stacks.{Nodes}
use Rattle.turns.specs.Turn.{Below, old, call, Item, head, caller, gone}

-- What an item leads to by itself.
pub data Next {Name Globals Frame : Type 0} (machine : Machine Globals Frame) (nodes : Nodes Name Frame) :
    Item Name Globals Frame → Item Name Globals Frame → Type 0 where
  moves : (g : Globals) (f : Frame) (h : Globals) (f' : Frame) (b : Below Name Globals Frame) → machine.Moves g f h f'
      → Next machine nodes (head g f b) (head h f' b)
  enters : (g : Globals) (f e w : Frame) (b : Below Name Globals Frame) → machine.Calls g f e w
      → Next machine nodes (head g f b) (head g e (call g e))
  stays : (g : Globals) (f e w : Frame) (b : Below Name Globals Frame) → machine.Calls g f e w
      → Next machine nodes (head g f b) (caller g e w b)
  comes_out : (g : Globals) (f : Frame) (q : Name) (w : Frame) (r : Name) (h : Globals) (f' : Frame) → nodes.Has q w r
      → machine.Returns g f w h f' → Next machine nodes (head g f (old q)) (head h f' (old r))
  goes : (g : Globals) (f : Frame) (q : Name) → nodes.Bare q → machine.Ends g f → Next machine nodes (head g f (old q)) (gone g)

-- What a finished frame over a call and a caller of that call lead to together.
pub data Together {Name Globals Frame : Type 0} (machine : Machine Globals Frame) :
    Item Name Globals Frame → Item Name Globals Frame → Item Name Globals Frame → Type 0 where
  returns : (g : Globals) (e : Frame) (i : Globals) (f w : Frame) (b : Below Name Globals Frame) (h : Globals) (f' : Frame)
      → machine.Returns i f w h f' → Together machine (head i f (call g e)) (caller g e w b) (head h f' b)

-- the first items of a turn: the heads of its node, and the empty stack if it is in the node
pub data First {Name Globals Frame : Type 0} (nodes : Nodes Name Frame) (globals : Globals) (start : Name) : Item Name Globals Frame
    → Type 0 where
  starts : (f : Frame) (q : Name) → nodes.Has start f q → First nodes globals start (head globals f (old q))
  is_gone : nodes.Bare start → First nodes globals start (gone globals)

-- The items have the first ones, what each leads to by itself, and what any two of them lead to together.
pub record IsSaturated {Name Globals Frame : Type 0} (machine : Machine Globals Frame) (nodes : Nodes Name Frame) (globals : Globals)
    (start : Name) (Is : Item Name Globals Frame → Type 0) : Type 0 where
  pub first : (x : Item Name Globals Frame) → First nodes globals start x → Is x
  pub next : (x y : Item Name Globals Frame) → Is x → Next machine nodes x y → Is y
  pub together : (x c y : Item Name Globals Frame) → Is x → Is c → Together machine x c y → Is y
