-- What a step of a lock does to the history and to a hand, and how a table's rule allows a lock at a place.
use Rattle.std.specs.Prelude.{◌≡◌, ◌≢◌, ◌⊎◌, ℕ, ◌+◌, ◌<◌, List, [], ◌∷◌, ◌++◌, map, length, slice_index, slice_set, Option}
use mathlib.Core.Option as maybe
use mathlib.Core.Option.{some}
use lib.ListN.{get_elem?}
use Rattle.atomic_table.specs.Table.{State}
use Rattle.ticket_lock.specs.declared.hand.Hand.{Hand}
use Rattle.ticket_lock.specs.Count.{without}
use Rattle.ticket_lock.specs.History.{EndsIn}
use Rattle.ticket_lock.specs.Core.{TicketCore}

-- the kinds of step that change a hand or look at the count: a draw, a look too early, a look in turn that finds a
-- value, and a pass on of the value left after the value found
pub data StepKind (T : Type 0) : Type 0 where
  draws : StepKind T
  waits : StepKind T
  enters : T → StepKind T
  passes : T → T → StepKind T

module _ {T : Type 0} where
  -- the hand with one more ticket
  abbrev pub with_ticket : ℕ → Hand T → Hand T
  with_ticket ticket hand = record hand { tickets = hand.tickets ++ ticket ∷ []; drawn = hand.drawn ++ ticket ∷ [] }

  -- the hand inside, with one of its tickets, at this history
  abbrev pub with_entry : ℕ → List T → Hand T → Hand T
  with_entry ticket log hand = record hand { tickets = without ticket hand.tickets; inside = ticket ∷ []; seen = log }

  -- the hand outside again, with a value added to the history
  abbrev pub with_leave : T → Hand T → Hand T
  with_leave added hand = record hand { inside = []; seen = hand.seen ++ added ∷ [] }

  -- what a step of this kind does to the history and to the hand that takes it
  abbrev pub Turns : StepKind T → List T → List T → Hand T → Hand T → Type 0
  Turns draws log log' before after = (log' ≡ log) × ((ticket : ℕ) × (after ≡ with_ticket ticket before))
  Turns waits log log' before after = (log' ≡ log) × (after ≡ before)
  Turns (enters value) log log' before after = (log' ≡ log) × EndsIn log value × ((ticket : ℕ) × (after ≡ with_entry ticket log before))
  Turns (passes value added) log log' before after = (log' ≡ log ++ added ∷ []) × EndsIn log value × (before.seen ≡ log)
      × (after ≡ with_leave added before)

  -- the lock's rule, at a place of a table
  pub record Kept (word slot : ℕ) (log : List T) (words : List ℕ) (homes : List (maybe.Option (Option T)))
      (hands : List (Hand T)) : Type 0 where
    pub room : word + 1 < length words
    pub core : TicketCore (slice_index words word) (slice_index words (word + 1)) log (get_elem? homes slot) hands

module _ {T V : Type 0} (holds : State (Option T) V → Type 0) (see : V → Hand T) (asks : StepKind T → V → Type 0)
    (tells : StepKind T → V → V → Type 0) (word slot : ℕ) where
  -- if a seat takes a step of the lock that keeps the lock's rule, and meets what the step asks, it has a new view
  -- with that hand which keeps the table's rule, and of which the step tells
  abbrev pub Follows : State (Option T) V → List T → ℕ → V → Type 0
  Follows state log id view =
      (kind : StepKind T) (changed number : ℕ) (homes : List (maybe.Option (Option T))) (log' : List T) (hand : Hand T)
      → (changed ≡ word) ⊎ (changed ≡ word + 1) → length homes ≡ length state.homes
      → ((other : ℕ) → other ≢ slot → get_elem? homes other ≡ get_elem? state.homes other)
      → Turns kind log log' (see view) hand
      → Kept word slot log' (slice_set state.words changed number) homes (slice_set (map see state.views) id hand)
      → asks kind view
      → (later : V) × (see later ≡ hand)
      × holds record { words = slice_set state.words changed number; homes = homes; views = slice_set state.views id later }
      × tells kind view later

  -- the lock's rule holds wherever the table's does, and each step of the lock can be taken
  abbrev pub Opens : Type 0
  Opens = (state : State (Option T) V) → holds state
      → (log : List T) × Kept word slot log state.words state.homes (map see state.views)
      × ((id : ℕ) (view : V) → get_elem? state.views id ≡ some view → Follows state log id view)
