-- What contracts see of a lock, a lane, a guard and a note.
use Rattle.std.specs.Prelude.{◌≡◌, ℕ, zero, suc, ◌+◌, ◌^◌, ◌≤◌, List, [], ◌∷◌, map, length, Option, None}
use Rattle.atomic_table.specs.Table.{Me}
use Rattle.atomic_table.specs.Seated.{TableId}
use Rattle.ticket_lock.specs.declared.view.View.{View}
use Rattle.ticket_lock.specs.Lone.{new_view}

-- a lock: which one it is, the opening value and the number of lanes
pub record Lock (T : Type 0) : Type 0 where
  pub id : TableId
  pub opening : T
  pub lanes : ℕ

-- a lane: its lock and its number, how many tickets it has left to draw, the history that it has seen, the tickets that
-- it waits with, the ticket that it is inside with if any, all tickets that it drew, and, alone in a list, the value
-- that it left last or the opening value
pub record Standing (T : Type 0) : Type 0 where
  pub lock : TableId
  pub number : ℕ
  pub left : ℕ
  pub seen : List T
  pub tickets : List ℕ
  pub inside : List ℕ
  pub drawn : List ℕ
  pub own : List T

-- a guard: the value, and the ticket
pub record Held (T : Type 0) : Type 0 where
  pub value : T
  pub number : ℕ

-- a note: its lock, and the history that it tells of
pub record Told (T : Type 0) : Type 0 where
  pub lock : TableId
  pub seen : List T

-- the table of a lock has two words and a slot
abbrev pub IsLockTable : TableId → Type 0
IsLockTable id = (id.words ≡ 2) × (id.slots ≡ 1)

module _ {T : Type 0} where
  -- how contracts see a lane
  abbrev pub standing : TableId → ℕ → ℕ → View T → Standing T
  standing id number left view = record {
    lock = id;
    number = number;
    left = left;
    seen = view.hand.seen;
    tickets = view.hand.tickets;
    inside = view.hand.inside;
    drawn = view.hand.drawn;
    own = map (λ lane. lane.1) view.own;
  }

  -- a lane that has drawn nothing, and has seen the opening value
  abbrev pub fresh_lane : TableId → ℕ → T → ℕ → Standing T
  fresh_lane id budget value number = record {
    lock = id;
    number = number;
    left = budget;
    seen = value ∷ [];
    tickets = [];
    inside = [];
    drawn = [];
    own = value ∷ [];
  }

  -- `count` such lanes, numbered from `first` on
  abbrev pub fresh_lanes : TableId → ℕ → T → ℕ → ℕ → List (Standing T)
  fresh_lanes id budget value first zero = []
  fresh_lanes id budget value first (suc count) = fresh_lane id budget value first ∷ fresh_lanes id budget value (suc first) count

  -- a lane has one number and one share, has taken in what it was told, draws within its share, and holds the slot
  -- exactly while it is inside
  pub record IsLane (id : TableId) (number left : ℕ) (me : Me (Option T) (View T)) : Type 0 where
    pub one : (value : T) × (me.0.own ≡ (number, value) ∷ [])
    pub taken : me.0.told ≡ []
    pub share : me.0.hand.parts ≡ 1
    pub budget : length me.0.hand.drawn + left ≤ 2 ^ 56
    pub sized : IsLockTable id
    pub outside : me.0.hand.inside ≡ [] → me.1 ≡ []
    pub inside : (ticket : ℕ) → me.0.hand.inside ≡ ticket ∷ [] → me.1 ≡ (0, None) ∷ []

  -- a note tells of a history, and has nothing
  pub record IsNote (id : TableId) (me : Me (Option T) (View T)) : Type 0 where
    pub blank : me ≡ (new_view me.0.hand.seen [], [])
    pub sized : IsLockTable id
