-- The rule of a lock that has a table of its own: word 0 counts the values left, word 1 has the next ticket, and slot 0
-- the value.
use Rattle.std.specs.Prelude.{◌≡◌, ◌≢◌, ◌⊎◌, ℕ, zero, suc, ◌+◌, ◌<◌, ◌≤◌, List, [], ◌∷◌, ◌++◌, map, length, take, drop, Option}
use mathlib.Core.Option.{some}
use lib.ListN.{get_elem?}
use Rattle.atomic_table.specs.Table.{State, Me}
use Rattle.ticket_lock.specs.declared.hand.Hand.{Hand}
use Rattle.ticket_lock.specs.declared.view.View.{View}
use Rattle.ticket_lock.specs.declared.view.Opening.{Opening}
use Rattle.ticket_lock.specs.Count.{times, total}
use Rattle.ticket_lock.specs.History.{StartsWith, EndsIn, longer, IsRising}
use Rattle.ticket_lock.specs.Turns.{StepKind, draws, waits, enters, passes, Kept}

module _ {T : Type 0} where
  -- the lock has its two words at the start of the table, and its slot there
  abbrev pub IsStart : Opening T → ℕ → ℕ → Type 0
  IsStart key word slot = (word ≡ 0) × (slot ≡ 0)

  abbrev pub hand_of : ℕ → View T → Hand T
  hand_of slot view = view.hand

  -- the numbers of a view's lanes
  abbrev pub lane_numbers : View T → List ℕ
  lane_numbers view = map (λ lane. lane.0) view.own

  -- `count` lanes, numbered from `first` on, each with this value
  abbrev pub lanes_from : ℕ → ℕ → T → List (ℕ × T)
  lanes_from first zero value = []
  lanes_from first (suc count) value = (first, value) ∷ lanes_from (suc first) count value

  -- a hand that has seen this, and has nothing but its shares
  abbrev pub new_hand : List T → ℕ → Hand T
  new_hand seen parts = record { seen = seen; tickets = []; inside = []; drawn = []; parts = parts }

  -- a view that has seen this, and has nothing but these lanes
  abbrev pub new_view : List T → List (ℕ × T) → View T
  new_view seen own = record { hand = new_hand seen (length own); told = []; own = own }

  -- a view that knows nothing and has nothing
  abbrev pub nobody : View T
  nobody = new_view [] []

  -- the first view has all lanes, and has seen the opening value
  abbrev pub opening_view : Opening T → View T
  opening_view key = new_view (key.value.value ∷ []) (lanes_from 0 key.lanes key.value.value)

  -- a view that has this many lanes, and has nothing to take in, no ticket and no guard
  abbrev pub IsWhole : ℕ → View T → Type 0
  IsWhole lanes view = (view.told ≡ []) × (view.hand.tickets ≡ []) × (view.hand.inside ≡ []) × (length view.own ≡ lanes)

  -- the value is the last of the history seen, which begins with the opening value and has one more value than
  -- tickets were drawn; each ticket below the number of tickets was drawn once, and no other was
  abbrev pub Rests : T → View T → T → Type 0
  Rests opening view value = EndsIn view.hand.seen value × StartsWith view.hand.seen (opening ∷ [])
      × (length view.hand.seen ≡ length view.hand.drawn + 1)
      × ((ticket : ℕ) → ticket < length view.hand.drawn → times ticket view.hand.drawn ≡ 1)
      × ((ticket : ℕ) → length view.hand.drawn ≤ ticket → times ticket view.hand.drawn ≡ 0)

  -- a view that has taken in what it was told
  abbrev pub taken_in : View T → View T
  taken_in view = record view { hand = record view.hand { seen = longer view.hand.seen view.told }; told = [] }

  -- the value has the part of each lane of the view as that lane left it
  abbrev pub KeepsParts : {Part : Type 0} → (ℕ → T → Part) → View T → T → Type 0
  KeepsParts part view value = (place lane : ℕ) (left : T) → get_elem? view.own place ≡ some (lane, left) → part lane value ≡ part lane left

  -- a view that has all that two had, and was told what the second had seen
  abbrev pub merged : View T → View T → View T
  merged one other = record {
    hand = record {
      seen = one.hand.seen;
      tickets = one.hand.tickets ++ other.hand.tickets;
      inside = one.hand.inside ++ other.hand.inside;
      drawn = one.hand.drawn ++ other.hand.drawn;
      parts = one.hand.parts + other.hand.parts;
    };
    told = other.hand.seen;
    own = one.own ++ other.own;
  }

  -- what it has seen, and all of its lanes but the first
  abbrev pub less_one : View T → View T
  less_one view = new_view view.hand.seen (drop 1 view.own)

  -- what it has seen, and the first of its lanes
  abbrev pub just_one : View T → View T
  just_one view = new_view view.hand.seen (take 1 view.own)

  -- what it has seen alone
  abbrev pub just_seen : View T → View T
  just_seen view = new_view view.hand.seen []

module _ {T Part : Type 0} (before : T → T → Type 0) (part : ℕ → T → Part) where
  -- a view's shares are its lanes; it was told a prefix of the history; and the last value of the history has the
  -- part of each of its lanes as that lane left it
  pub record Knows (log : List T) (view : View T) : Type 0 where
    pub shares : view.hand.parts ≡ length view.own
    pub told : StartsWith log view.told
    pub owns : (place lane : ℕ) (left last : T) → get_elem? view.own place ≡ some (lane, left) → EndsIn log last
        → part lane last ≡ part lane left

  -- the lock's rule; the history begins with the opening value, and each value of it comes before the later ones;
  -- each lane is in one view at most, and all lanes are; some view with a lane has seen the whole history or was
  -- told it
  pub record Lone (opening : T) (lanes : ℕ) (state : State (Option T) (View T)) : Type 0 where
    pub log : List T
    pub kept : Kept 0 0 log state.words state.homes (map (hand_of 0) state.views)
    pub begun : StartsWith log (opening ∷ [])
    pub rising : IsRising before log
    pub each_view : (place : ℕ) (view : View T) → get_elem? state.views place ≡ some view → Knows log view
    pub whole : total (λ view. length view.own) state.views ≡ lanes
    pub once : (lane : ℕ) → total (λ view. times lane (lane_numbers view)) state.views ≤ 1
    pub known : (place : ℕ) × (view : View T) × (get_elem? state.views place ≡ some view) × (0 < length view.own)
        × ((view.hand.seen ≡ log) ⊎ (view.told ≡ log))

  -- of a value left it is asked that the value found comes before it, and that it has the parts of all lanes but the
  -- one that leaves as they were found
  abbrev pub MayBeLeft : ℕ → StepKind T → View T → Type 0
  MayBeLeft slot draws view = Unit {0}
  MayBeLeft slot waits view = Unit {0}
  MayBeLeft slot (enters value) view = Unit {0}
  MayBeLeft slot (passes value added) view = before value added
      × ((lane : ℕ) × (left : T) × (view.own ≡ (lane, left) ∷ []) × ((other : ℕ) → other ≢ lane → part other added ≡ part other value))

  -- a look in turn tells that the history rises, and that the value found has the lanes' parts as they left them; and a
  -- pass on that the value left is the one that its lane left last
  abbrev pub TellsHistory : ℕ → StepKind T → View T → View T → Type 0
  TellsHistory slot draws earlier later = (later.told ≡ earlier.told) × (later.own ≡ earlier.own)
  TellsHistory slot waits earlier later = later ≡ earlier
  TellsHistory slot (enters value) earlier later = (later.told ≡ earlier.told) × (later.own ≡ earlier.own) × IsRising before later.hand.seen
      × ((place lane : ℕ) (left : T) → get_elem? earlier.own place ≡ some (lane, left) → part lane value ≡ part lane left)
  TellsHistory slot (passes value added) earlier later = (later.told ≡ earlier.told)
      × ((lane : ℕ) (left : T) → earlier.own ≡ (lane, left) ∷ [] → later.own ≡ (lane, added) ∷ [])

  -- a load at which a view takes in what it was told; the last value of the lock's history has each of its lanes' parts
  -- as that lane left it, and what it has seen comes before that value
  abbrev pub TookIn : Me (Option T) (View T) → Me (Option T) (View T) → Type 0
  TookIn earlier later = (later ≡ (taken_in earlier.0, earlier.1)) × StartsWith later.0.hand.seen earlier.0.hand.seen
      × StartsWith later.0.hand.seen earlier.0.told
      × IsRising before later.0.hand.seen
      × ((place lane : ℕ) (left : T) → get_elem? earlier.0.own place ≡ some (lane, left)
      → (value : T) × (part lane value ≡ part lane left) × ((last : T) → EndsIn later.0.hand.seen last → before last value))
