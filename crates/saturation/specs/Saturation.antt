-- Items that are found, and lists of items that have all that follows.
use Rattle.std.specs.Prelude.{ℕ, List}
use Rattle.language.specs.Lists.{Member}
use Rattle.turns.specs.Machines.{Machine}
use Rattle.turns.specs.Saturated.{Next, Together}
use Rattle.turns.specs.Stacks.{Nodes}
use Rattle.turns.specs.Turn as turn
use Rattle.turns.specs.declared.numbered_frame.NumberedFrame.{NumberedFrame}
use Rattle.saturation.specs.Calls.{caller_item, finished_item}
use Rattle.saturation.specs.Items.{Found, item_of, IsAmong}
use Rattle.saturation.specs.Leads.{HaveAll, IsReturn}
use Rattle.saturation.specs.Work.{IsFailing}
use Rattle.saturation.specs.declared.item.Entry.{Entry}
use Rattle.saturation.specs.declared.item.Item.{Item}
use Rattle.saturation.specs.declared.paired.Finished.{Finished}
use Rattle.saturation.specs.declared.paired.Resting.{Resting}

-- some item fails
abbrev pub SomeFails : Machine ℕ NumberedFrame → List Item → Type 0
SomeFails machine items = (item : Item) × Member item items × IsFailing machine item

module _ (machine : Machine ℕ NumberedFrame) (nodes : Nodes ℕ NumberedFrame) where
  -- each item is found in a turn from these globals and this node
  abbrev pub AreFound : ℕ → ℕ → List Item → Type 0
  AreFound globals node items = (item : Item) → Member item items → turn.Found machine nodes globals node (item_of item)

  -- What the items that have been worked on lead to, each by itself and two together, is among all items, and none of
  -- them fails.
  pub record IsClosedFor (done all : List Item) : Type 0 where
    pub next : (item : Item) → Member item done → HaveAll (Next machine nodes (item_of item)) all
    pub together : (entry : Entry) (one : Finished) (resting : Resting) → Member (finished_item entry one) done
        → Member (caller_item entry resting) done
        → HaveAll (IsReturn machine one resting) all
    pub passes : (item : Item) → Member item done → IsFailing machine item → ⊥

  -- What is among the items leads to nothing else.
  pub record IsClosed (items : List Item) : Type 0 where
    pub next : (x y : Found) → IsAmong items x → Next machine nodes x y → IsAmong items y
    pub together : (x c y : Found) → IsAmong items x → IsAmong items c → Together machine x c y → IsAmong items y
