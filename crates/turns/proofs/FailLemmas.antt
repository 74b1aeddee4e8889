-- A turn fails where a head that it finds fails.
use Rattle.std.proofs.Common.{◌↔◌, List, [], ◌∷◌}
use Rattle.turns.specs.Machines.{Machine}
use Rattle.turns.specs.Stacks.{Nodes, NoneVacant}
use Rattle.turns.specs.Turn.{Item, head, caller, gone, Found, starts, is_gone, moves, enters, stays}
use Rattle.turns.specs.Turn.{returns, comes_out, goes, LiesBelow, SomeHeadFails, SomeStackFails}
use Rattle.turns.proofs.TurnLemmas.{found_ends}

module _ {Name Globals Frame : Type 0} (m : Machine Globals Frame) (nodes : Nodes Name Frame) (g0 : Globals) (start : Name)
    (full : NoneVacant nodes) where
  abbrev pub Is : Item Name Globals Frame → Type 0
  Is item = Found m nodes g0 start item

  -- some frames lie below
  abbrev pub HasBelow : Item Name Globals Frame → Type 0
  HasBelow (head g f b) = (fs : List Frame) × LiesBelow nodes Is b fs
  HasBelow (caller g e w b) = (fs : List Frame) × LiesBelow nodes Is b fs
  HasBelow (gone g) = Unit {0}

  -- some frames lie below whatever is found
  pub has_below : (item : Item Name Globals Frame) → Is item → HasBelow item
  has_below _ (starts f q has) = full start f q has
  has_below _ (is_gone bare) = tt
  has_below _ (moves g f h f' b found is) = has_below _ found
  has_below _ (enters g f e w b found is) =
      let (fs, lies) = has_below _ found in
      (w ∷ fs, (b, stays g f e w b found is, lies))
  has_below _ (stays g f e w b found is) = has_below _ found
  has_below _ (returns g e i f w b h f' found waits is) = has_below _ waits
  has_below _ (comes_out g f q w r h f' found has is) = full q w r has
  has_below _ (goes g f q found bare is) = tt

  stack_fails : SomeHeadFails m nodes g0 start → SomeStackFails m nodes g0 start
  stack_fails (g, f, b, found, bad) =
      let (fs, lies) = has_below (head g f b) found in
      let (stack, is, run) = (found_ends m nodes g0 start g (f ∷ fs)).0 (b, found, lies) in
      (stack, is, (g, f ∷ fs, run, bad))

  head_fails : SomeStackFails m nodes g0 start → SomeHeadFails m nodes g0 start
  head_fails (stack, is, (g, [], run, bad)) = absurd bad
  head_fails (stack, is, (g, f ∷ fs, run, bad)) =
      let (b, found, lies) = (found_ends m nodes g0 start g (f ∷ fs)).1 (stack, is, run) in
      (g, f, b, found, bad)

  -- a turn fails where a head that it finds fails
  pub turn_fails : SomeHeadFails m nodes g0 start ↔ SomeStackFails m nodes g0 start
  turn_fails = (stack_fails, head_fails)
