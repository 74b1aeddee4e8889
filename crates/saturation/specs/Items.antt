-- What a turn finds, as it is kept.
use Rattle.std.specs.Prelude.{◌≡◌, ◌++◌, ℕ, Bool, true, false, List, [], ◌∷◌}
use Rattle.language.specs.Lists.{Member}
use Rattle.turns.specs.Turn as turn
use Rattle.turns.specs.declared.numbered_frame.NumberedFrame.{NumberedFrame}
use Rattle.saturation.specs.declared.item.Below.{Below}
use Rattle.saturation.specs.declared.item.Below.TheVariants.{Old, Call}
use Rattle.saturation.specs.declared.item.Item.{Item}
use Rattle.saturation.specs.declared.item.Item.TheVariants.{Head, Waits, Gone}

-- what a turn finds, by numbers
abbrev pub Found : Type 0
Found = turn.Item ℕ ℕ NumberedFrame

-- what lies below a frame
abbrev pub below_of : Below → turn.Below ℕ ℕ NumberedFrame
below_of (Old q) = turn.old q
below_of (Call entry) = turn.call entry.globals entry.frame

-- what is kept of what a turn finds
abbrev pub item_of : Item → Found
item_of (Head top) = turn.head top.globals top.frame (below_of top.below)
item_of (Waits caller) = turn.caller caller.entry.globals caller.entry.frame caller.frame (below_of caller.below)
item_of (Gone globals) = turn.gone globals

-- this is among what is kept
abbrev pub IsAmong : List Item → Found → Type 0
IsAmong items x = (item : Item) × Member item items × (item_of item ≡ x)

-- The one list goes on as the other does not, with items for which P holds.
abbrev pub Extends : (Found → Type 0) → List Item → List Item → Type 0
Extends P old new = (more : List Item) × (new ≡ old ++ more) × ((item : Item) → Member item more → P (item_of item))

-- The item was not there and is added behind the others, or it was there and they are as they were; the flag says
-- which.
abbrev pub Inserted : Item → Bool → List Item → List Item → Type 0
Inserted item true old new = new ≡ old ++ item ∷ []
Inserted item false old new = new ≡ old
