-- What the calls of a lock promise.
use Rattle.std.specs.Prelude.{◌≡◌, ◌≢◌, ℕ, ◌+◌, ◌-◌, ◌<◌, ◌≤◌, List, [], ◌∷◌, ◌++◌, length}
use mathlib.Core.Option.{some}
use lib.ListN.{get_elem?}
use Rattle.atomic_table.specs.Seated.{TableId}
use Rattle.ticket_lock.specs.Count.{times, total, without}
use Rattle.ticket_lock.specs.History.{StartsWith, EndsIn, longer, IsRising}
use Rattle.ticket_lock.specs.Lanes.{Standing, Held, Told}

module _ {T : Type 0} where
  -- the lane has drawn this ticket, which is above all that it drew and all that it waits with, and not below the
  -- number of values left that it has seen; nothing else of the lane changes
  pub record Drew (ticket : ℕ) (before after : Standing T) : Type 0 where
    pub had : 0 < before.left
    pub fresh : (higher : ℕ) → ticket ≤ higher → (times higher before.drawn ≡ 0) × (times higher before.tickets ≡ 0)
    pub served : length before.seen ≤ ticket + 1
    pub lane : after
        ≡ record before { left = before.left - 1; tickets = before.tickets ++ ticket ∷ []; drawn = before.drawn ++ ticket ∷ [] }

  -- the lane could not draw, since it has drawn all its tickets, and nothing changed
  abbrev pub LaneWasSpent : Standing T → Standing T → Type 0
  LaneWasSpent before after = (before.left ≡ 0) × (after ≡ before)

  -- it is not yet this ticket's turn: the ticket comes back, the lane stays as it was, and has seen fewer values left
  -- than the ticket says
  abbrev pub CameBack : ℕ → ℕ → Standing T → Standing T → Type 0
  CameBack ticket back before after = (back ≡ ticket) × (after ≡ before) × (length before.seen ≤ ticket)

  module _ {Part : Type 0} (before : T → T → Type 0) (part : ℕ → T → Part) where
    -- the guard of a ticket stands at a history with as many values left as the ticket says, which begins with all that
    -- its lane had seen. The guard finds the last value of it, which has the lane's own part as the lane left it. Each
    -- value of the history comes before the later ones
    pub record GuardStands (ticket : ℕ) (guard : Held T) (earlier after : Standing T) : Type 0 where
      pub number : guard.number ≡ ticket
      pub turn : length after.seen ≡ ticket + 1
      pub later : StartsWith after.seen earlier.seen
      pub found : EndsIn after.seen guard.value
      pub own : (left : T) → earlier.own ≡ left ∷ [] → part earlier.number guard.value ≡ part earlier.number left
      pub rises : IsRising before after.seen
      pub outside : earlier.inside ≡ []

    -- the lane is inside with one of its tickets; nothing else of it changes except what it has seen
    abbrev pub Served : ℕ → Held T → Standing T → Standing T → Type 0
    Served ticket guard earlier later = GuardStands ticket guard earlier later
        × (later ≡ record earlier { seen = later.seen; tickets = without ticket earlier.tickets; inside = ticket ∷ [] })

    -- the lane has drawn the guard's ticket, as `draw` does, and is inside with it
    pub record EnteredLock (guard : Held T) (earlier later : Standing T) : Type 0 where
      pub had : 0 < earlier.left
      pub fresh : (higher : ℕ) → guard.number ≤ higher → (times higher earlier.drawn ≡ 0) × (times higher earlier.tickets ≡ 0)
      pub stands : GuardStands guard.number guard earlier later
      pub lane : later
          ≡ record earlier {
            left = earlier.left - 1;
            drawn = earlier.drawn ++ guard.number ∷ [];
            seen = later.seen;
            inside = guard.number ∷ [];
          }

    -- what a lane that is inside may leave: the last value that it has seen, which it found, comes before it, and it
    -- has the parts of all other lanes as they were found
    pub record MayLeave (standing : Standing T) (left : T) : Type 0 where
      pub later : (found : T) → EndsIn standing.seen found → before found left
      pub apart : (found : T) → EndsIn standing.seen found → (other : ℕ) → other ≢ standing.number → part other left ≡ part other found

    -- the lane has seen what it had seen and what the note tells, and what comes first of the two values that it
    -- had seen last and has seen last now, comes before; and what it has seen last comes before a value of the lock
    -- that has the lane's own part as the lane left it
    pub record LearnedNote (note : Told T) (earlier later : Standing T) : Type 0 where
      pub lane : later ≡ record earlier { seen = longer earlier.seen note.seen }
      pub mine : StartsWith later.seen earlier.seen
      pub theirs : StartsWith later.seen note.seen
      pub rises : IsRising before later.seen
      pub own : (left : T) → earlier.own ≡ left ∷ []
          → (value : T) × (part earlier.number value ≡ part earlier.number left) × ((last : T) → EndsIn later.seen last → before last value)

  -- the value has each lane's own part as that lane left it
  abbrev pub KeepsOwn : {Part : Type 0} → (ℕ → T → Part) → List (Standing T) → T → Type 0
  KeepsOwn part lanes value = (place : ℕ) (lane : Standing T) (left : T) → get_elem? lanes place ≡ some lane → lane.own ≡ left ∷ []
      → part lane.number value ≡ part lane.number left

  -- what each lane has seen last comes before the value
  abbrev pub ComesLast : (T → T → Type 0) → List (Standing T) → T → Type 0
  ComesLast before lanes value = (place : ℕ) (lane : Standing T) (last : T) → get_elem? lanes place ≡ some lane → EndsIn lane.seen last
      → before last value

  -- a lane of this lock with no ticket and no guard in hand
  abbrev pub IsIdle : TableId → Standing T → Type 0
  IsIdle id standing = (standing.lock ≡ id) × (standing.tickets ≡ []) × (standing.inside ≡ [])

  -- a lane of this lock that waits with one ticket, and has no guard
  abbrev pub IsWaiting : TableId → ℕ → Standing T → Type 0
  IsWaiting id ticket standing = (standing.lock ≡ id) × (standing.tickets ≡ ticket ∷ []) × (standing.inside ≡ [])

  -- the value is the last one of the longest history that a lane has seen, of which the history of each other lane is
  -- a prefix; it begins with the opening value, and has one more value than tickets were drawn; each ticket below the
  -- number of tickets was drawn once by one lane, and no other was
  pub record ClosesLock (opening : T) (lanes : List (Standing T)) (value : T) : Type 0 where
    pub place : ℕ
    pub longest : Standing T
    pub there : get_elem? lanes place ≡ some longest
    pub last : EndsIn longest.seen value
    pub begun : StartsWith longest.seen (opening ∷ [])
    pub others : (other : ℕ) (lane : Standing T) → get_elem? lanes other ≡ some lane → StartsWith longest.seen lane.seen
    pub served : length longest.seen ≡ total (λ lane. length lane.drawn) lanes + 1
    pub once : (ticket : ℕ) → ticket < total (λ lane. length lane.drawn) lanes → total (λ lane. times ticket lane.drawn) lanes ≡ 1
    pub no_more : (ticket : ℕ) → total (λ lane. length lane.drawn) lanes ≤ ticket → total (λ lane. times ticket lane.drawn) lanes ≡ 0

  -- the lane has added the value to the history that it has seen, and is outside
  abbrev pub Left : T → Standing T → Standing T → Type 0
  Left added before after = after ≡ record before { seen = before.seen ++ added ∷ []; inside = []; own = added ∷ [] }
