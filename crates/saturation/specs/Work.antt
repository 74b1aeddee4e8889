-- What follows from an item, and what has been worked on.
use Rattle.std.specs.Prelude.{◌≡◌, ◌⊎◌, ◌++◌, ℕ, List, [], ◌∷◌}
use Rattle.turns.specs.Machines.{Machine}
use Rattle.turns.specs.Saturated.{Next}
use Rattle.turns.specs.Stacks.{Nodes}
use Rattle.turns.specs.Turn as turn
use Rattle.turns.specs.declared.numbered_frame.NumberedFrame.{NumberedFrame}
use Rattle.saturation.specs.Calls.{callers_of, finished_of, AreListed}
use Rattle.saturation.specs.Items.{Found, item_of}
use Rattle.saturation.specs.Leads.{IsReturn, OfSome}
use Rattle.saturation.specs.declared.calls.Calls.{Calls}
use Rattle.saturation.specs.declared.item.Below.{Below}
use Rattle.saturation.specs.declared.item.Below.TheVariants.{Call, Old}
use Rattle.saturation.specs.declared.item.Caller.{Caller}
use Rattle.saturation.specs.declared.item.Entry.{Entry}
use Rattle.saturation.specs.declared.item.Item.{Item}
use Rattle.saturation.specs.declared.item.Item.TheVariants.{Head, Waits, Gone}
use Rattle.saturation.specs.declared.item.Top.{Top}
use Rattle.saturation.specs.declared.paired.Finished.{Finished}
use Rattle.saturation.specs.declared.paired.Resting.{Resting}

-- a top frame as one that is finished
abbrev pub finished_in : Top → Finished
finished_in top = record { globals = top.globals; frame = top.frame }

-- a caller as it rests below its call
abbrev pub resting_at : Caller → Resting
resting_at caller = record { frame = caller.frame; below = caller.below }

-- a return of the finished frame to a head of the node leads to this, or this is that the stack is empty, and the node
-- has the empty stack
abbrev pub IsOut : Machine ℕ NumberedFrame → Nodes ℕ NumberedFrame → Top → ℕ → Found → Type 0
IsOut machine nodes top number x =
    ((w : NumberedFrame) × (r : ℕ) × nodes.Has number w r × IsReturn machine (finished_in top) (record { frame = w; below = Old r }) x)
    ⊎ (nodes.Bare number × (x ≡ turn.gone top.globals))

module _ {Alloc : Type 0} (machine : Machine ℕ NumberedFrame) (nodes : Nodes ℕ NumberedFrame) (calls : Calls Alloc) where
  -- this follows when the finished frame is left: over a node from before, or over a call, to the callers that were
  -- worked on
  abbrev pub LeavesTo : Below → Top → Found → Type 0
  LeavesTo (Old number) top x = IsOut machine nodes top number x
  LeavesTo (Call entry) top x = OfSome (IsReturn machine (finished_in top)) (callers_of calls entry) x

  abbrev pub Leaves : Top → Found → Type 0
  Leaves top x = LeavesTo top.below top x

  -- this follows from the item, by itself or with the callers and finished frames that were worked on before
  abbrev pub Follows : Item → Found → Type 0
  Follows (Head top) x = Next machine nodes (item_of (Head top)) x
      ⊎ ((entry : Entry) × (top.below ≡ Call entry) × OfSome (IsReturn machine (finished_in top)) (callers_of calls entry) x)
  Follows (Waits caller) x = OfSome (λ one. IsReturn machine one (resting_at caller)) (finished_of calls caller.entry) x
  Follows (Gone globals) x = ⊥

-- the top frame of the item fails
abbrev pub IsFailing : Machine ℕ NumberedFrame → Item → Type 0
IsFailing machine (Head top) = machine.Fails top.globals top.frame
IsFailing machine (Waits caller) = ⊥
IsFailing machine (Gone globals) = ⊥

-- the lists have, with those from before, the item
abbrev pub ListsAlso : {Alloc : Type 0} → Item → Calls Alloc → Calls Alloc → Type 0
ListsAlso item old new = (done : List Item) → AreListed old done → AreListed new (done ++ item ∷ [])
