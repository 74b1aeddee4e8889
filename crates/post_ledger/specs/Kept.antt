-- What a mailbox keeps of its history, and what it keeps true of its fields.
use Rattle.std.specs.Prelude.{◌≡◌, ℕ, ◌+◌, ◌*◌, ◌-◌, ◌^◌, ◌<◌, ◌≤◌, true, List, [], ◌∷◌, Option, Some, None}
use Rattle.std.specs.Prelude.{flat_map, length, map, nat_eq, slice_get, vec_capacity}
use Rattle.std.specs.List.{IsDistinct, list_any, zip}
use Rattle.post_ledger.specs.declared.event.Event.{Event}
use Rattle.post_ledger.specs.declared.event.Event.TheVariants.{Post, Take, Done}
use Rattle.post_ledger.specs.declared.mailbox.Mailbox.TheInside.{Inside}
use Rattle.post_ledger.specs.declared.mailbox.Kind.{Kind}
use Rattle.post_ledger.specs.declared.mailbox.Kind.TheVariants as kind
use Rattle.post_ledger.specs.declared.mailbox.Step.{Step}
use Rattle.post_ledger.specs.History.{posts, takes, dones, IsLegal}

-- an event without its message: what it is, and the number of a Post if it is one or took one, and of a Take if it completed one
abbrev pub NumberedEvent : Type 0
NumberedEvent = Kind × ℕ

-- an event that is a Post or a Take has the number of one of these Posts
abbrev pub IsNumbered : ℕ → NumberedEvent → Type 0
IsNumbered count (kind.Post, number) = number < count
IsNumbered count (kind.Take, number) = number < count
IsNumbered count (kind.Done, number) = Unit {0}

abbrev pub AreNumbered : ℕ → List NumberedEvent → Type 0
AreNumbered count [] = Unit {0}
AreNumbered count (s ∷ ss) = IsNumbered count s × AreNumbered count ss

-- the event of a step, without its message
abbrev pub numbered_of : Step → NumberedEvent
numbered_of step = (step.kind, step.number)

module _ {M : Type 0} where
  -- the Post of a sender and a message, if there are some
  abbrev pub post_of : Option (ℕ × M) → List (Event M)
  post_of None = []
  post_of (Some p) = Post p.0 p.1 ∷ []

  -- and their Take
  abbrev pub take_of : Option (ℕ × M) → List (Event M)
  take_of None = []
  take_of (Some p) = Take p.0 p.1 ∷ []

  -- the event with its message, if these are the senders and messages of the Posts
  abbrev pub event_of : List (ℕ × M) → NumberedEvent → List (Event M)
  event_of posted (kind.Post, number) = post_of (slice_get posted number)
  event_of posted (kind.Take, number) = take_of (slice_get posted number)
  event_of posted (kind.Done, number) = Done number ∷ []

  -- the events with their messages
  abbrev pub events_of : List (ℕ × M) → List NumberedEvent → List (Event M)
  events_of posted numbered = flat_map (event_of posted) numbered

  -- The numbers are those of a legal history with these Posts: `taken` Takes, of which `open` have no Done.
  pub record HistoryCounts (events : List (Event M)) (posted : List (ℕ × M)) (taken open_takes : ℕ) : Type 0 where
    pub legal : IsLegal events
    pub all_posted : posts events ≡ posted
    pub all_taken : length (takes events) ≡ taken
    pub all_open : taken ≡ length (dones events) + open_takes
    pub once : IsDistinct nat_eq (dones events)
    pub earlier : (t : ℕ) → list_any (nat_eq t) (dones events) ≡ true → t < taken

  -- The counts are those of the history, and there is room for the Take and the Done that each Post still owes.
  pub record MailboxCounts (posted : List (ℕ × M)) (events : List NumberedEvent) (capacity taken open_takes : ℕ) : Type 0 where
    pub history : HistoryCounts (events_of posted events) posted taken open_takes
    pub numbered : AreNumbered (length posted) events
    pub within : taken ≤ length posted
    pub few : length posted ≤ 2 ^ 32
    pub room : length events + 2 * (length posted - taken) + open_takes ≤ capacity

  -- the senders and messages of the Posts: the sender of the message of a number is in the step of that number
  abbrev pub posted_of : List M → List Step → List (ℕ × M)
  posted_of messages steps = zip (map (λ step. step.sender) steps) messages

  -- the history of a mailbox with these messages and steps
  abbrev pub history_of : List M → List Step → List (Event M)
  history_of messages steps = events_of (posted_of messages steps) (map numbered_of steps)

  -- the counts are those of these messages and steps, and each message has a sender
  pub record FieldCounts (messages : List M) (steps : List Step) (capacity taken open_takes : ℕ) : Type 0 where
    pub counts : MailboxCounts (posted_of messages steps) (map numbered_of steps) capacity taken open_takes
    pub all_sent : length (posted_of messages steps) ≡ length messages

-- the fields of a mailbox are the counts of its events
abbrev pub IsKept : {M A : Type 0} → Inside M A → Type 0
IsKept mailbox =
    FieldCounts mailbox.messages.items mailbox.steps.items (vec_capacity mailbox.steps) mailbox.taken mailbox.open
