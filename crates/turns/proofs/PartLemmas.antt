-- A named ending has the stacks with which the turn can end.
use Rattle.std.proofs.Common.{◌↔◌, List, [], ◌∷◌, refl, subst}
use Rattle.turns.specs.Stacks.{Nodes, InNode}
use Rattle.turns.specs.Turn.{Below, old, call, Item, LiesBelow, IsStackOf}
use Rattle.turns.specs.Parts.{Part, below, ending, parts_of, AreNamed}
use Rattle.turns.proofs.NodeLemmas.{no_more_stacks}

module _ {Name Globals Frame : Type 0} (nodes : Nodes Name Frame) (Is : Item Name Globals Frame → Type 0) where
  -- the sets of stacks of a turn
  abbrev pub parts : Nodes (Part Name Globals Frame) Frame
  parts = parts_of nodes Is

  -- what can lie below a frame is in its set
  pub into : (fs : List Frame) (b : Below Name Globals Frame) → LiesBelow nodes Is b fs → InNode parts (below b) fs
  into [] (old q) lies = lies
  into [] (call g e) lies = lies
  into (f ∷ fs) (old q) (m, has, lies) = (below (old m), (m, refl, has), into fs (old m) lies)
  into (f ∷ fs) (call g e) (c, waits, lies) = (below c, (c, refl, waits), into fs c lies)

  out : (fs : List Frame) (b : Below Name Globals Frame) → InNode parts (below b) fs → LiesBelow nodes Is b fs
  out [] (old q) is = is
  out [] (call g e) is = is
  out (f ∷ fs) (old q) (b, (m, e, has), is) = (m, has, out fs (old m) (subst (λ z. InNode parts z fs) e is))
  out (f ∷ fs) (call g e) (b, (c, same, waits), is) = (c, waits, out fs c (subst (λ z. InNode parts z fs) same is))

  ending_in : (g : Globals) (stack : List Frame) → IsStackOf nodes Is g stack → InNode parts (ending g) stack
  ending_in g [] is = is
  ending_in g (f ∷ fs) (b, found, lies) = (below b, (b, refl, found), into fs b lies)

  ending_out : (g : Globals) (stack : List Frame) → InNode parts (ending g) stack → IsStackOf nodes Is g stack
  ending_out g [] is = is
  ending_out g (f ∷ fs) (b, (c, e, found), is) = (c, found, out fs c (subst (λ z. InNode parts z fs) e is))

  -- a node by which an ending is named has the stacks of the ending
  pub named_stacks : {Other : Type 0} (after : Nodes Other Frame) (Named : Part Name Globals Frame → Other → Type 0)
      → AreNamed nodes Is after Named → (h : Globals) (m : Other) → Named (ending h) m → (stack : List Frame)
      → InNode after m stack ↔ IsStackOf nodes Is h stack
  named_stacks after Named named h m is stack = (
    λ inside. ending_out h stack (no_more_stacks after parts (λ n part. Named part n) named.back stack m (ending h) is inside),
    λ ends. no_more_stacks parts after Named named.there stack (ending h) m is (ending_in h stack ends),
  )
