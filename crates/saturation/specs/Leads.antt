-- What follows from what a turn has found.
use Rattle.std.specs.Prelude.{◌≡◌, ◌⊎◌, ℕ, List, Option, Some}
use Rattle.language.specs.Lists.{Member}
use Rattle.flow_graph.specs.declared.graph.Graph.{Graph}
use Rattle.turns.specs.Machines.{Machine}
use Rattle.turns.specs.Numbered.{globals_in, places_in, placed}
use Rattle.turns.specs.Turn as turn
use Rattle.turns.specs.declared.numbered_frame.NumberedFrame.{NumberedFrame}
use Rattle.stack_sets.specs.declared.node.Head as sets
use Rattle.saturation.specs.Items.{Found, below_of, IsAmong}
use Rattle.saturation.specs.declared.item.Below.{Below}
use Rattle.saturation.specs.declared.item.Below.TheVariants.{Old}
use Rattle.saturation.specs.declared.item.Entry.{Entry}
use Rattle.saturation.specs.declared.item.Item.{Item}
use Rattle.saturation.specs.declared.item.Top.{Top}
use Rattle.saturation.specs.declared.paired.Finished.{Finished}
use Rattle.saturation.specs.declared.paired.Resting.{Resting}

-- a top frame with its globals, over what lies below it
abbrev pub head : ℕ → NumberedFrame → Below → Found
head globals f below = turn.head globals f (below_of below)

-- a frame that waits below a call
abbrev pub waits : Entry → Resting → Found
waits entry resting = turn.caller entry.globals entry.frame resting.frame (below_of resting.below)

-- a finished frame of a call
abbrev pub finishes : Entry → Finished → Found
finishes entry finished = turn.head finished.globals finished.frame (turn.call entry.globals entry.frame)

-- where a top frame is after a step inside its call to this point and this valuation, if there is such a step
abbrev pub IsNext : {Alloc : Type 0} → Graph Alloc → Top → Option (ℕ × ℕ) → Found → Type 0
IsNext graph top next x = (point : ℕ) × (values : ℕ) × (next ≡ Some (point, values))
    × (x ≡ head (globals_in graph values) (placed top.frame.procedure point (places_in graph values)) top.below)

module _ (machine : Machine ℕ NumberedFrame) where
  -- moves of the top frame lead to this
  abbrev pub IsMove : Top → Found → Type 0
  IsMove top x = (h : ℕ) × (k : NumberedFrame) × machine.Moves top.globals top.frame h k × (x ≡ head h k top.below)

  -- a call of the top frame leads to this: the first frame of the call, or the top frame as a caller
  abbrev pub IsCall : Top → Found → Type 0
  IsCall top x = (e : NumberedFrame) × (w : NumberedFrame) × machine.Calls top.globals top.frame e w
      × ((x ≡ turn.head top.globals e (turn.call top.globals e)) ⊎ (x ≡ turn.caller top.globals e w (below_of top.below)))

  -- a return of the finished frame to the caller leads to this
  abbrev pub IsReturn : Finished → Resting → Found → Type 0
  IsReturn finished caller x = (h : ℕ) × (k : NumberedFrame) × machine.Returns finished.globals finished.frame caller.frame h k
      × (x ≡ head h k caller.below)

-- W holds for one of these
abbrev pub OfSome : {Part : Type 0} → (Part → Found → Type 0) → List Part → Found → Type 0
OfSome {Part} W parts x = (part : Part) × Member part parts × W part x

-- a head of a node from before, as a caller
abbrev pub resting_in : sets.Head → Resting
resting_in one = record { frame = one.frame; below = Old one.below }

-- all for which P holds are among the items
abbrev pub HaveAll : (Found → Type 0) → List Item → Type 0
HaveAll P items = (x : Found) → P x → IsAmong items x
