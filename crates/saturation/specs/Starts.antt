-- The first items of a turn.
use Rattle.std.specs.Prelude.{◌≡◌, ℕ}
use Rattle.stack_sets.specs.declared.node.Head as sets
use Rattle.saturation.specs.Items.{Found, item_of}
use Rattle.saturation.specs.declared.item.Below.TheVariants.{Old}
use Rattle.saturation.specs.declared.item.Item.{Item}
use Rattle.saturation.specs.declared.item.Item.TheVariants.{Head}

-- a head of a node from before, with the globals at first
abbrev pub first_item : ℕ → sets.Head → Item
first_item globals one = Head (record { globals = globals; frame = one.frame; below = Old one.below })

-- this is that head
abbrev pub IsStart : ℕ → sets.Head → Found → Type 0
IsStart globals one x = x ≡ item_of (first_item globals one)
