-- What one sender posted to a mailbox, and what was taken of it.
use Rattle.std.specs.Prelude.{ℕ, ◌==◌, List, map, filter}
use Rattle.post_ledger.specs.declared.event.Event.{Event}
use Rattle.post_ledger.specs.declared.side.Side.{Side}
use Rattle.post_ledger.specs.declared.side.Side.TheVariants.{Posts, Takes}
use Rattle.post_ledger.specs.History.{posts, takes}

module _ {M : Type 0} where
  -- the messages of one sender, in order
  abbrev pub messages_of : ℕ → List (ℕ × M) → List M
  messages_of sender pairs = map (λ p. p.1) (filter (λ p. p.0 == sender) pairs)

  -- the messages that the sender posted to the mailbox, in order
  abbrev pub sent : ℕ → List (Event M) → List M
  sent sender history = messages_of sender (posts history)

  -- the messages of the sender that were taken from the mailbox, in order
  abbrev pub taken : ℕ → List (Event M) → List M
  taken sender history = messages_of sender (takes history)

  -- what was sent, at the side of the Posts, and what was taken, at that of the Takes
  abbrev pub on_side : Side → ℕ → List (Event M) → List M
  on_side Posts sender history = sent sender history
  on_side Takes sender history = taken sender history
