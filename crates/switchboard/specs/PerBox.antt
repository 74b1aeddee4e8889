-- The rule of a board with a lock for each mailbox, and what each of its steps tells. Word 0 counts the outstanding
-- posts, and its bit 63 says that the board was aborted.
use Rattle.std.specs.Prelude.{◌≡◌, ◌≢◌, ◌⊎◌, ℕ, ◌+◌, ◌*◌, ◌^◌, ◌<◌, ◌≤◌, ◌==◌, true, false, List, [], ◌∷◌, ◌++◌}
use Rattle.std.specs.Prelude.{map, length, Option, Some, None, slice_index, slice_set}
use mathlib.Core.Option as maybe
use mathlib.Core.Option.{some}
use lib.ListN.{get_elem?}
use Rattle.atomic_table.specs.Table as table
use Rattle.atomic_table.specs.Seated.{TableId}
use Rattle.ticket_lock.specs.declared.hand.Hand.{Hand}
use Rattle.ticket_lock.specs.Count.{times, total}
use Rattle.ticket_lock.specs.History.{StartsWith, EndsIn}
use Rattle.ticket_lock.specs.Turns.{StepKind, draws, waits, enters, passes, Kept}
use Rattle.post_ledger.specs.declared.event.Event.{Event}
use Rattle.post_ledger.specs.declared.event.Event.TheVariants.{Post, Take, Done}
use Rattle.post_ledger.specs.declared.entry.Entry.{Entry}
use Rattle.post_ledger.specs.declared.entry.Entry.TheVariants.{Completed}
use Rattle.post_ledger.specs.History.{MayFollow}
use Rattle.post_ledger.specs.Orders.{part, own, posted, completed, HasJob, IsClosed}
use Rattle.switchboard.specs.declared.calls.Abort.{Abort}
use Rattle.switchboard.specs.declared.lock_per_box.knowing.Ground.{Ground}
use Rattle.switchboard.specs.declared.lock_per_box.knowing.Seen.{Seen}
use Rattle.switchboard.specs.declared.lock_per_box.knowing.Own.{Own}
use Rattle.switchboard.specs.declared.lock_per_box.knowing.Knowing.{Knowing}
use Rattle.switchboard.specs.Sights.{IsSound}
use Rattle.switchboard.specs.Knowing.{entry_of, owes_after, with_event, state_of, hand_at, with_hand}
use Rattle.switchboard.specs.Knowing.{with_seen, counted_up, pass_numbers, makes, made_abort, informed}

-- the first of the two words of a mailbox's lock; those of different mailboxes lie 64 bytes apart
abbrev pub word_of : ℕ → ℕ
word_of mailbox = 8 * (mailbox + 1)

-- bit 63 of the word, which is set if there was an abort
abbrev pub flag : Option Abort → ℕ
flag None = 0
flag (Some abort) = 2 ^ 63

-- what a seat of the board knows, where contracts see a mailbox as its history
abbrev pub SeatView : Type 0 → Type 0 → Type 0
SeatView M W = Knowing M W (List (Event M))

-- a seat of one pass alone has the job
abbrev pub HasOwnJob : {M W : Type 0} → SeatView M W → ℕ → Type 0
HasOwnJob {M} view job =
    (lane : Own M) × (view.lanes ≡ lane ∷ []) × (own lane.number view.seen.order ≡ lane.events) × HasJob lane.number job view.seen.order

-- a seat of the board's table: what it knows, and the slots that it holds, with what lies in them
abbrev pub Seat : Type 0 → Type 0 → Type 0
Seat M W = table.Me (Option (List (Event M))) (SeatView M W)

-- what lies in the slots of the table: a mailbox, or nothing while a seat holds the slot
abbrev pub Slots : Type 0 → Type 0
Slots M = List (maybe.Option (Option (List (Event M))))

-- the table
abbrev pub Boxes : Type 0 → Type 0 → Type 0
Boxes M W = table.State (Option (List (Event M))) (SeatView M W)

module _ {M W : Type 0} where
  -- what the seats have in the count together
  abbrev pub owed : List (SeatView M W) → ℕ
  owed = total (λ view. view.owes)

  -- how many Posts they may count up together
  abbrev pub postable : List (SeatView M W) → ℕ
  postable = total (λ view. view.budget)

module _ {M : Type 0} where
  -- the lock of a mailbox keeps the lock's rule, and the last value left in it is the order's projection to the
  -- mailbox
  abbrev pub LockStands : ℕ → List (Entry M) → List ℕ → Slots M → List (Hand (List (Event M))) → Type 0
  LockStands mailbox order words homes hands = (log : List (List (Event M))) × Kept (word_of mailbox) mailbox log words homes hands
      × EndsIn log (part mailbox order)

-- the table of a board with a given number of mailboxes
abbrev pub IsBoardTable : TableId → ℕ → Type 0
IsBoardTable id boxes = (id.words ≡ 8 * (boxes + 1)) × (id.slots ≡ boxes) × (boxes ≤ 64)

-- the hand has nothing but its share, and a ticket to draw
abbrev pub CanDraw : {T : Type 0} → Hand T → Type 0
CanDraw hand = (hand.tickets ≡ []) × (hand.inside ≡ []) × (hand.parts ≡ 1) × (length hand.drawn < 2 ^ 56)

module _ {M W : Type 0} where
  -- the seat is one of the table, and the mailbox one of the board
  abbrev pub IsBoxOf : Ground M W → TableId → TableId → ℕ → Type 0
  IsBoxOf basis id seat number = (seat ≡ id) × IsBoardTable id basis.boxes × (number < basis.boxes)

  -- a mailbox's history lies in its slot, and its lock has its words
  abbrev pub IsBox : Ground M W → ℕ → ℕ → Type 0
  IsBox basis word slot = (word ≡ word_of slot) × (slot < basis.boxes)

  module _ (fits : W → ℕ → M → Type 0) where
    -- What was seen is a prefix of the order, and sound, if it has an event; an abort that was seen is the first;
    -- whoever knows the close has seen the whole order, and no post is outstanding.
    pub record Saw (basis : Ground M W) (order : List (Entry M)) (first : Option Abort) (low : ℕ) (seen : Seen M) : Type 0 where
      pub begins : StartsWith order seen.order
      pub sound : 0 < length seen.order → IsSound fits (state_of basis seen)
      pub aborted : (abort : Abort) → seen.aborted ≡ Some abort → first ≡ Some abort
      pub close : seen.knows ≡ true → (low ≡ 0) × (seen.order ≡ order)

    -- What holds for each seat: it has a share of each lock for each of its passes; each of its passes made exactly
    -- its own events of the order; without a pass it has none in the count.
    pub record KnowsBoard (basis : Ground M W) (order : List (Entry M)) (first : Option Abort) (low : ℕ)
        (view : SeatView M W) : Type 0 where
      pub board : (place : ℕ) (ground : Ground M W) → get_elem? view.boards place ≡ some ground → ground ≡ basis
      pub saw : Saw basis order first low view.seen
      pub told : Saw basis order first low view.told
      pub owns : (place : ℕ) (lane : Own M) → get_elem? view.lanes place ≡ some lane → own lane.number order ≡ lane.events
      pub parts : (mailbox : ℕ) → mailbox < basis.boxes → (hand_at mailbox view).parts ≡ length view.lanes
      pub idle : length view.lanes ≡ 0 → view.owes ≡ 0

    -- The rule: the longest order is sound, and begins with what each seat has seen; each lock stands at its part for
    -- the mailbox; the low bits of word 0 are the Posts without a Done, and what the seats have in the count beside
    -- them; each pass is in one seat, and all are; the maker of the first abort has made it.
    pub record Rule (basis : Ground M W) (state : Boxes M W) : Type 0 where
      pub order : List (Entry M)
      pub first : Option Abort
      pub low : ℕ
      pub sound : IsSound fits (state_of basis (record { order = order; aborted = first; knows = false }))
      pub locks : (mailbox : ℕ) → mailbox < basis.boxes
          → LockStands mailbox order state.words state.homes (map (hand_at mailbox) state.views)
      pub some_word : 0 < length state.words
      pub word : slice_index state.words 0 ≡ low + flag first
      pub count : low + completed order ≡ posted order + owed state.views
      pub few : low + postable state.views < 2 ^ 63
      pub each : (place : ℕ) (view : SeatView M W) → get_elem? state.views place ≡ some view → KnowsBoard basis order first low view
      pub once : (number : ℕ) → total (λ (view : SeatView M W). times number (pass_numbers view)) state.views ≤ 1
      pub whole : total (λ (view : SeatView M W). length view.lanes) state.views ≡ basis.boxes
      pub maker : (abort : Abort) → first ≡ Some abort → 0 < total (makes abort.by) state.views

    -- what a seat sees after a step continues from what it had seen, and is sound; whoever knows the close has seen a
    -- closed order
    pub record News (view : SeatView M W) (seen : Seen M) : Type 0 where
      pub begins : StartsWith seen.order view.seen.order
      pub aborted : (abort : Abort) → view.seen.aborted ≡ Some abort → seen.aborted ≡ Some abort
      pub knows : view.seen.knows ≡ true → seen.knows ≡ true
      pub sound : 0 < length seen.order → (ground : Ground M W) → get_elem? view.boards 0 ≡ some ground
          → IsSound fits (state_of ground seen)
      pub close : seen.knows ≡ true → IsClosed seen.order

    -- each pass of the seat has exactly its own events in the order
    abbrev pub HasOwn : SeatView M W → List (Entry M) → Type 0
    HasOwn view order = (place : ℕ) (lane : Own M) → get_elem? view.lanes place ≡ some lane → own lane.number order ≡ lane.events

    -- what is asked of an event that a pass is to record, after the history found: a Post is the pass's own, under a
    -- job that it has, fits and is counted up; a Take or a Done is one of the pass's own mailbox, and may follow
    abbrev pub MayRecord : ℕ → ℕ → Event M → List (Event M) → SeatView M W → Type 0
    MayRecord mailbox number (Post sender message) history view = (sender ≡ number) × HasJob number view.under view.seen.order
        × ((ground : Ground M W) × (get_elem? view.boards 0 ≡ some ground) × fits ground.world.value mailbox message) × (0 < view.owes)
    MayRecord mailbox number (Take sender message) history view = (number ≡ mailbox) × MayFollow history (Take sender message)
    MayRecord mailbox number (Done job) history view = (number ≡ mailbox) × MayFollow history (Done job)

    -- the history is left as it was found, or with one event that the pass may record, or with two: a Done of its own
    -- mailbox, and a Take that may follow it
    abbrev pub LeavesEvents : ℕ → StepKind (List (Event M)) → SeatView M W → Type 0
    LeavesEvents mailbox draws view = Unit {0}
    LeavesEvents mailbox waits view = Unit {0}
    LeavesEvents mailbox (enters found) view = Unit {0}
    LeavesEvents mailbox (passes found left) view = (left ≡ found)
        ⊎ (((lane : Own M) × (event : Event M) × (view.lanes ≡ lane ∷ []) × (own lane.number view.seen.order ≡ lane.events)
        × (left ≡ found ++ event ∷ [])
        × MayRecord mailbox lane.number event found view)
        ⊎ ((lane : Own M) × (job sender : ℕ) × (message : M) × (view.lanes ≡ lane ∷ [])
        × (own lane.number view.seen.order ≡ lane.events)
        × (left ≡ (found ++ Done job ∷ []) ++ Take sender message ∷ [])
        × (lane.number ≡ mailbox) × MayFollow found (Done job) × MayFollow (found ++ Done job ∷ []) (Take sender message)))

    -- the event is the last of the order that the pass has seen then, and of its own; the history found was the part of
    -- the order before it
    pub record Recorded (mailbox : ℕ) (lane : Own M) (event : Event M) (history : List (Event M))
        (earlier later : SeatView M W) : Type 0 where
      pub front : List (Entry M)
      pub after : later ≡ record earlier {
        hands = slice_set earlier.hands mailbox (hand_at mailbox later);
        lanes = with_event (entry_of mailbox earlier.under event) lane ∷ [];
        seen = record earlier.seen { order = front ++ entry_of mailbox earlier.under event ∷ [] };
        owes = owes_after event earlier.owes;
      }
      pub begins : StartsWith front earlier.seen.order
      pub own : own lane.number front ≡ lane.events
      pub part : part mailbox front ≡ history
      pub news : News earlier later.seen

    -- the Done was recorded, and then the Take
    abbrev pub RecordedTwo : ℕ → Own M → ℕ → ℕ → M → List (Event M) → SeatView M W → SeatView M W → Type 0
    RecordedTwo mailbox lane job sender message history earlier later = (between : SeatView M W)
        × Recorded mailbox lane (Done job) history earlier between
        × Recorded mailbox (with_event (Completed mailbox job) lane) (Take sender message) (history ++ Done job ∷ []) between later

    -- a look in turn tells the order, whose projection to the mailbox is the history found; a pass on records the
    -- event, if there is one, or both if there are two
    abbrev pub TellsOrder : ℕ → StepKind (List (Event M)) → SeatView M W → SeatView M W → Type 0
    TellsOrder mailbox draws before after = after ≡ with_hand mailbox (hand_at mailbox after) before
    TellsOrder mailbox waits before after = after ≡ before
    TellsOrder mailbox (enters found) before after = (after ≡ with_seen after.seen (with_hand mailbox (hand_at mailbox after) before))
        × News before after.seen × HasOwn before after.seen.order
        × (after.seen.aborted ≡ before.seen.aborted) × (after.seen.knows ≡ before.seen.knows) × (part mailbox after.seen.order ≡ found)
    TellsOrder mailbox (passes found left) before after = (left ≡ found → after ≡ with_hand mailbox (hand_at mailbox after) before)
        × ((lane : Own M) (event : Event M) → before.lanes ≡ lane ∷ [] → left ≡ found ++ event ∷ []
        → Recorded mailbox lane event found before after)
        × ((lane : Own M) (job sender : ℕ) (message : M) → before.lanes ≡ lane ∷ []
        → left ≡ (found ++ Done job ∷ []) ++ Take sender message ∷ []
        → RecordedTwo mailbox lane job sender message found before after)

    -- the seat is inside the lock of a mailbox, whose history lies in its slot, and is the part of the order that the
    -- seat has seen then
    pub record IsInside (mailbox : ℕ) (history : List (Event M)) (earlier later : Seat M W) : Type 0 where
      pub lies : later.1 ≡ (mailbox, Some history) ∷ earlier.1
      pub after : later.0 ≡ with_seen later.0.seen (with_hand mailbox (hand_at mailbox later.0) earlier.0)
      pub inside : (ticket : ℕ) × ((hand_at mailbox later.0).inside ≡ ticket ∷ [])
      pub tickets : (hand_at mailbox later.0).tickets ≡ []
      pub parts : (hand_at mailbox later.0).parts ≡ (hand_at mailbox earlier.0).parts
      pub drawn : length (hand_at mailbox later.0).drawn ≡ length (hand_at mailbox earlier.0).drawn + 1
      pub found : EndsIn (hand_at mailbox later.0).seen history
      pub news : News earlier.0 later.0.seen
      pub own : HasOwn earlier.0 later.0.seen.order
      pub aborted : later.0.seen.aborted ≡ earlier.0.seen.aborted
      pub knows : later.0.seen.knows ≡ earlier.0.seen.knows
      pub part : part mailbox later.0.seen.order ≡ history

    -- a look at word 0 tells the order as it is, the abort if there was one, and the close if no post is outstanding
    pub record LookedAtWord (earlier : Seat M W) (number : ℕ) (later : Seat M W) : Type 0 where
      pub after : later ≡ (with_seen later.0.seen earlier.0, earlier.1)
      pub news : News earlier.0 later.0.seen
      pub own : HasOwn earlier.0 later.0.seen.order
      pub low : ℕ
      pub small : low < 2 ^ 63
      pub found : number ≡ low + flag later.0.seen.aborted
      pub knows : later.0.seen.knows ≡ (low == 0)

    -- a look at word 0, and a Post more in the count, in one step
    abbrev pub CountedUp : ℕ → Seat M W → ℕ → Seat M W → Type 0
    CountedUp job earlier number later = (looked : Seat M W) × LookedAtWord earlier number looked
        × (later ≡ (counted_up job looked.0, looked.1))

    -- bit 63 is set: the first abort is this one, or that of another pass
    pub record Raised (abort : Abort) (earlier later : Seat M W) : Type 0 where
      pub after : later ≡ (record earlier.0 { lanes = map made_abort earlier.0.lanes; seen = later.0.seen }, earlier.1)
      pub news : News earlier.0 later.0.seen
      pub own : HasOwn earlier.0 later.0.seen.order
      pub knows : later.0.seen.knows ≡ earlier.0.seen.knows
      pub which : (first : Abort) × (later.0.seen.aborted ≡ Some first) × ((first ≡ abort) ⊎ (first.by ≢ abort.by))

    -- the seat has taken in what it was told
    pub record SeatTookIn (earlier later : Seat M W) : Type 0 where
      pub after : later ≡ (informed earlier.0, earlier.1)
      pub news : News earlier.0 later.0.seen
      pub theirs : StartsWith later.0.seen.order earlier.0.told.order
      pub aborted : (abort : Abort) → earlier.0.told.aborted ≡ Some abort → later.0.seen.aborted ≡ Some abort
      pub own : (place : ℕ) (lane : Own M) → get_elem? earlier.0.lanes place ≡ some lane
          → own lane.number earlier.0.seen.order ≡ lane.events
          → own lane.number later.0.seen.order ≡ lane.events
