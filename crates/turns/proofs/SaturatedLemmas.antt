-- Saturated items are all that is found, and what is found is saturated.
use Rattle.turns.specs.Machines.{Machine}
use Rattle.turns.specs.Stacks.{Nodes}
use Rattle.turns.specs.Turn as turn
use Rattle.turns.specs.Turn.{Item, Found}
use Rattle.turns.specs.Saturated.{First, starts, is_gone, Next, moves, enters, stays, comes_out, goes, Together, returns, IsSaturated}

module _ {Name Globals Frame : Type 0} (m : Machine Globals Frame) (nodes : Nodes Name Frame) (g0 : Globals) (start : Name) where
  module _ (Is : Item Name Globals Frame → Type 0) (full : IsSaturated m nodes g0 start Is) where
    -- saturated items are all that is found
    pub all_found : (item : Item Name Globals Frame) → Found m nodes g0 start item → Is item
    all_found _ (turn.starts f q has) = full.first _ (starts f q has)
    all_found _ (turn.is_gone bare) = full.first _ (is_gone bare)
    all_found _ (turn.moves g f h f' b found is) = full.next _ _ (all_found _ found) (moves g f h f' b is)
    all_found _ (turn.enters g f e w b found is) = full.next _ _ (all_found _ found) (enters g f e w b is)
    all_found _ (turn.stays g f e w b found is) = full.next _ _ (all_found _ found) (stays g f e w b is)
    all_found _ (turn.returns g e i f w b h f' found waits is) =
        full.together _ _ _ (all_found _ found) (all_found _ waits) (returns g e i f w b h f' is)
    all_found _ (turn.comes_out g f q w r h f' found has is) = full.next _ _ (all_found _ found) (comes_out g f q w r h f' has is)
    all_found _ (turn.goes g f q found bare is) = full.next _ _ (all_found _ found) (goes g f q bare is)

  -- what is found has the first items, and what it leads to
  pub first_found : (x : Item Name Globals Frame) → First nodes g0 start x → Found m nodes g0 start x
  first_found _ (starts f q has) = turn.starts f q has
  first_found _ (is_gone bare) = turn.is_gone bare

  pub next_found : (x y : Item Name Globals Frame) → Next m nodes x y → Found m nodes g0 start x → Found m nodes g0 start y
  next_found _ _ (moves g f h f' b is) found = turn.moves g f h f' b found is
  next_found _ _ (enters g f e w b is) found = turn.enters g f e w b found is
  next_found _ _ (stays g f e w b is) found = turn.stays g f e w b found is
  next_found _ _ (comes_out g f q w r h f' has is) found = turn.comes_out g f q w r h f' found has is
  next_found _ _ (goes g f q bare is) found = turn.goes g f q found bare is

  pub together_found : (x c y : Item Name Globals Frame) → Together m x c y → Found m nodes g0 start x → Found m nodes g0 start c
      → Found m nodes g0 start y
  together_found _ _ _ (returns g e i f w b h f' is) found waits = turn.returns g e i f w b h f' found waits is
