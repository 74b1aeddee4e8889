-- What each call of a lock at a place tells.
use Rattle.std.specs.Prelude.{◌≡◌, ◌≢◌, ℕ, Bool, true, false, ◌+◌, ◌^◌, ◌<◌, ◌≤◌, [], ◌∷◌, length, Option, Some, None, MatchOption}
use Rattle.atomic_table.specs.Table.{Me, rest}
use Rattle.atomic_table.specs.Seated.{TableId}
use Rattle.atomic_table.specs.declared.shared.Seat.{Seat}
use Rattle.ticket_lock.specs.declared.hand.Hand.{Hand}
use Rattle.ticket_lock.specs.Count.{times}
use Rattle.ticket_lock.specs.History.{StartsWith, EndsIn}
use Rattle.ticket_lock.specs.Core.{in_hand}
use Rattle.ticket_lock.specs.Turns.{StepKind, draws, waits, enters, passes, with_ticket, with_entry, with_leave}

-- it is the same seat at the same table
abbrev pub IsSameSeat : {S V : Type 0} → Seat S V → Seat S V → Type 0
IsSameSeat old new = (new.table_id ≡ old.table_id) × (new.id ≡ old.id)

-- the two words and the slot of a lock are among those of the table
abbrev pub IsRoom : ℕ → ℕ → TableId → Type 0
IsRoom word slot id = (word + 1 < id.words) × (word + 1 < 2 ^ 64) × (slot < id.slots)

-- the seat is one of the table, which has room for the word and the slot, and the rule allows a lock there
abbrev pub StandsAt : {K : Type 0} → (K → ℕ → ℕ → Type 0) → TableId → TableId → K → ℕ → ℕ → Type 0
StandsAt is_place seat table key word slot = (seat ≡ table) × IsRoom word slot table × is_place key word slot

module _ {T : Type 0} where
  -- the hand has drawn a ticket that is above all that it drew and has, and not below the number of values left that it
  -- has seen
  abbrev pub DrawsTicket : ℕ → Hand T → Hand T → Type 0
  DrawsTicket ticket before after = (after ≡ with_ticket ticket before) × (length before.seen ≤ ticket + 1)
      × ((higher : ℕ) → ticket ≤ higher → (times higher before.drawn ≡ 0) × (in_hand higher before ≡ 0))

  -- the hand, which was outside, is inside with one of its tickets, at a history with as many values left as the ticket
  -- says, which begins with all that it had seen and ends in the value
  abbrev pub Enters : ℕ → T → Hand T → Hand T → Type 0
  Enters ticket value before after = (after ≡ with_entry ticket after.seen before) × (before.inside ≡ [])
      × (length after.seen ≡ ticket + 1) × StartsWith after.seen before.seen
      × EndsIn after.seen value

module _ {T V : Type 0} (see : V → Hand T) (tells : StepKind T → V → V → Type 0) where
  -- a draw: the slots that the seat holds stay
  abbrev pub Drew : Me (Option T) V → ℕ → Me (Option T) V → Type 0
  Drew before ticket after = (after.1 ≡ before.1) × DrawsTicket ticket (see before.0) (see after.0) × tells draws before.0 after.0

  -- a look that tells nothing: the hand stays
  abbrev pub Stayed : Me (Option T) V → Me (Option T) V → Type 0
  Stayed before after = (after.1 ≡ before.1) × (see after.0 ≡ see before.0) × tells waits before.0 after.0

  -- a draw of this ticket if it is the next one, and else a look
  abbrev pub DrewIfNext : ℕ → Me (Option T) V → ℕ → Me (Option T) V → Type 0
  DrewIfNext next before number after = (number ≡ next → Drew before next after) × (number ≢ next → Stayed before after)

  -- the same, with whether it was drawn
  abbrev pub DrewIf : Me (Option T) V → ℕ → Bool → Me (Option T) V → Type 0
  DrewIf before next drawn after = (drawn ≡ true → Drew before next after) × (drawn ≡ false → Stayed before after)

  -- a look too early: nothing changes, and fewer values are left than the ticket says
  abbrev pub Waited : ℕ → Me (Option T) V → Me (Option T) V → Type 0
  Waited ticket before after = (after.1 ≡ before.1) × (see after.0 ≡ see before.0) × (length (see before.0).seen ≤ ticket)
      × tells waits before.0 after.0

  -- a look in turn: the seat is inside and holds the slot, with the answer in it
  abbrev pub WentInside : ℕ → ℕ → T → Option T → Me (Option T) V → Me (Option T) V → Type 0
  WentInside slot ticket value answer before after = (after.1 ≡ (slot, answer) ∷ before.1)
      × Enters ticket value (see before.0) (see after.0) × tells (enters value) before.0 after.0

  -- a look at the count, which is the ticket if it is this ticket's turn
  abbrev pub Loaded : ℕ → ℕ → Me (Option T) V → ℕ → Me (Option T) V → Type 0
  Loaded slot ticket before number after = (number ≡ ticket → (value : T) × WentInside slot ticket value (Some value) before after)
      × (number ≢ ticket → Waited ticket before after)

  -- the same, with whether it is this ticket's turn
  abbrev pub FoundTurn : ℕ → ℕ → Me (Option T) V → Bool → Me (Option T) V → Type 0
  FoundTurn slot ticket before is_turn after =
      (is_turn ≡ true → (value : T) × WentInside slot ticket value (Some value) before after)
      × (is_turn ≡ false → Waited ticket before after)

  -- a look, which takes the value out if it is this ticket's turn
  abbrev pub LookedAtTurn : ℕ → ℕ → Me (Option T) V → Option T → Me (Option T) V → Type 0
  LookedAtTurn slot ticket before answer after =
      MatchOption answer (Waited ticket before after) (λ value. WentInside slot ticket value None before after)

  -- the value, which the seat held in the slot, is the last of the history now, and the seat is outside
  abbrev pub Passed : ℕ → Me (Option T) V → Me (Option T) V → Type 0
  Passed slot before after = (found : T) × (added : T) × (before.1 ≡ (slot, Some added) ∷ rest before.1) × (after.1 ≡ rest before.1)
      × EndsIn (see before.0).seen found
      × (see after.0 ≡ with_leave added (see before.0)) × tells (passes found added) before.0 after.0

  -- a draw, and then a look in turn: the seat is inside with this ticket and holds the slot, with the answer in it
  abbrev pub Came : ℕ → Me (Option T) V → ℕ → T → Option T → Me (Option T) V → Type 0
  Came slot before ticket value answer after =
      (drawn : Me (Option T) V) × Drew before ticket drawn × WentInside slot ticket value answer drawn after

  -- the value was left after the last, and the seat is outside
  abbrev pub Left : T → Me (Option T) V → Me (Option T) V → Type 0
  Left added before after = (after.1 ≡ rest before.1) × (see after.0 ≡ with_leave added (see before.0))
      × ((found : T) × EndsIn (see before.0).seen found × tells (passes found added) before.0 after.0)

-- the seat is inside, and a value, which may be left after the value found, lies in the slot that it took last
abbrev pub MayPass : {T V : Type 0} → (V → Hand T) → (StepKind T → V → Type 0) → ℕ → Me (Option T) V → Type 0
MayPass {T} see asks slot me = (value : T) × (me.1 ≡ (slot, Some value) ∷ rest me.1) × ((ticket : ℕ) × ((see me.0).inside ≡ ticket ∷ []))
    × ((found : T) → EndsIn (see me.0).seen found → asks (passes found value) me.0)

-- the lock asks nothing of a seat that draws, looks or enters, and a look too early changes no view
abbrev pub IsFree : {T V : Type 0} → (StepKind T → V → Type 0) → (StepKind T → V → V → Type 0) → Type 0
IsFree {T} {V} asks tells = ((view : V) → asks draws view × asks waits view × ((value : T) → asks (enters value) view))
    × ((view later : V) → tells waits view later → later ≡ view)
