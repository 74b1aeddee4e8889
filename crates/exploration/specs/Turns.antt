-- Turns that were made.
use Rattle.std.specs.Prelude.{◌≡◌, ◌<◌, ◌++◌, ℕ, Option, Some, None, List, [], ◌∷◌, length, slice_get}
use Rattle.language.specs.Lists.{Member}
use Rattle.turns.specs.Machines.{Machine}
use Rattle.turns.specs.Turn.{SomeStackFails}
use Rattle.turns.specs.declared.numbered_frame.NumberedFrame.{NumberedFrame}
use Rattle.stack_sets.specs.Nodes.{by_number}
use Rattle.stack_sets.specs.declared.node.Node.{Node}
use Rattle.stack_sets.specs.Turns.{AreEndings}
use Rattle.stack_sets.specs.declared.turn.Ending.{Ending}
use Rattle.exploration.specs.declared.kept_turns.Start.{Start}
use Rattle.exploration.specs.declared.kept_turns.KeptTurn.{KeptTurn}
use Rattle.exploration.specs.declared.kept_turns.KeptTurns.{KeptTurns}

module _ {Alloc : Type 0} where
  -- the turns by number
  abbrev pub turns_in : KeptTurns Alloc → List (KeptTurn Alloc)
  turns_in kept = kept.turns.items

  -- the turn from there has these endings
  abbrev pub HasEndings : Start → List Ending → KeptTurn Alloc → Type 0
  HasEndings start endings turn = (turn.start ≡ start) × (turn.endings.items ≡ endings)

  -- The one list goes on as the other does not, with one turn, from there and with these endings.
  abbrev pub AddsTurn : Start → List Ending → List (KeptTurn Alloc) → List (KeptTurn Alloc) → Type 0
  AddsTurn start endings old new = (turn : KeptTurn Alloc) × HasEndings start endings turn × (new ≡ old ++ turn ∷ [])

  -- there is a turn, and it begins there
  abbrev pub HasStart : Start → Option (KeptTurn Alloc) → Type 0
  HasStart start None = ⊥
  HasStart start (Some turn) = turn.start ≡ start

  -- The endings are those of a turn from the start, which does not fail, among nodes that are there.
  pub record IsTurn (machine : Machine ℕ NumberedFrame) (nodes : List (Node Alloc)) (turn : KeptTurn Alloc) : Type 0 where
    pub endings : AreEndings machine nodes nodes turn.start.globals turn.start.node turn.endings.items
    pub holds : SomeStackFails machine (by_number nodes) turn.start.globals turn.start.node → ⊥
    pub within : turn.start.node < length nodes

  -- each turn of the list is one
  abbrev pub AreTurns : Machine ℕ NumberedFrame → List (Node Alloc) → List (KeptTurn Alloc) → Type 0
  AreTurns machine nodes turns = (turn : KeptTurn Alloc) → Member turn turns → IsTurn machine nodes turn

  -- the turn from a start fails, or is there under its number
  abbrev pub IsTurnFrom : Machine ℕ NumberedFrame → List (Node Alloc) → List (KeptTurn Alloc) → Start → Option ℕ → Type 0
  IsTurnFrom machine before turns start None = SomeStackFails machine (by_number before) start.globals start.node
  IsTurnFrom machine before turns start (Some number) = HasStart start (slice_get turns number)
