-- What the calls of a board promise.
use Rattle.std.specs.Prelude.{◌≡◌, ◌≢◌, ◌⊎◌, ◌↔◌, ℕ, ◌+◌, Bool, true, false, IsTrue, IsSome, List, []}
use Rattle.std.specs.Prelude.{◌∷◌, ◌++◌, Option, Some, None, Result, Ok, Err, MatchResult, length, slice_get}
use Rattle.atomic_table.specs.Seated.{TableId}
use Rattle.ticket_lock.specs.declared.lane.Spent.{Spent}
use Rattle.ticket_lock.specs.History.{StartsWith}
use Rattle.post_ledger.specs.declared.event.Event.{Event}
use Rattle.post_ledger.specs.declared.entry.Entry.{Entry}
use Rattle.post_ledger.specs.declared.entry.Entry.TheVariants.{Posted, Taken, Completed}
use Rattle.post_ledger.specs.History.{takes, TakesOldest}
use Rattle.post_ledger.specs.Orders.{part, own, HasJob, IsLawful, IsClosed}
use Rattle.switchboard.specs.declared.calls.Abort.{Abort}
use Rattle.switchboard.specs.declared.calls.PostFault.{PostFault}
use Rattle.switchboard.specs.declared.calls.PostFault.TheVariants as fault
use Rattle.switchboard.specs.declared.calls.Taken as answers
use Rattle.switchboard.specs.declared.calls.Taken.TheVariants as answer
use Rattle.switchboard.specs.Sights.{Sight, Account, Before, AllTaken, IsSound}

module _ {M W : Type 0} where
  -- if the pass had the job before, it has it after
  abbrev pub KeepsJob : ℕ → Sight M W → Sight M W → Type 0
  KeepsJob job before after = HasJob before.number job before.seen.order → HasJob after.number job after.seen.order

  -- the pass has used up its calls, and nothing changed
  abbrev pub WasSpent : Sight M W → Sight M W → Type 0
  WasSpent before after = (before.calls ≡ 0) × (after ≡ before)

  -- the first passes of a board with a given number of mailboxes, in the order of their numbers
  abbrev pub AreFirst : TableId → ℕ → List (Sight M W) → Type 0
  AreFirst id boxes passes = (place : ℕ) (pass : Sight M W) → slice_get passes place ≡ Some pass
      → (pass.board ≡ id) × (pass.number ≡ place) × (pass.seen.boxes ≡ boxes)

  -- all passes of a board, in the order of their numbers
  abbrev pub AreAll : TableId → ℕ → List (Sight M W) → Type 0
  AreAll id boxes passes = (length passes ≡ boxes) × AreFirst id boxes passes

-- a take says that the board is closed, or that the calls are used up
abbrev pub SaysClosed : {M : Type 0} → Result (answers.Taken M) Spent → Type 0
SaysClosed (Err spent) = Unit {0}
SaysClosed (Ok answer.Closed) = Unit {0}
SaysClosed (Ok answer.Aborted) = ⊥
SaysClosed (Ok answer.Empty) = ⊥
SaysClosed (Ok (answer.Message job message)) = ⊥

-- a take says that the board is closed or aborted, or that the calls are used up
abbrev pub SaysStopped : {M : Type 0} → Result (answers.Taken M) Spent → Type 0
SaysStopped (Err spent) = Unit {0}
SaysStopped (Ok answer.Closed) = Unit {0}
SaysStopped (Ok answer.Aborted) = Unit {0}
SaysStopped (Ok answer.Empty) = ⊥
SaysStopped (Ok (answer.Message job message)) = ⊥

-- a post is refused since the board was aborted, or since the calls are used up
abbrev pub IsPostStopped : {M : Type 0} → PostFault M → Type 0
IsPostStopped (fault.Spent message) = Unit {0}
IsPostStopped (fault.Aborted message) = Unit {0}
IsPostStopped (fault.Memory message) = ⊥

module _ {M W : Type 0} (fits : W → ℕ → M → Type 0) where
  -- What each call keeps: the pass stays the same one, its order begins with all that it had seen, which is sound,
  -- whoever made an abort knows of one, whoever knows the close knows it from then on, and its order is closed.
  pub record GoesOn (earlier later : Sight M W) : Type 0 where
    pub board : later.board ≡ earlier.board
    pub number : later.number ≡ earlier.number
    pub before : Before earlier.seen later.seen
    pub sound : IsSound fits later.seen
    pub made : later.made ≡ true → IsSome later.seen.aborted
    pub knows : earlier.knows ≡ true → later.knows ≡ true
    pub close : later.knows ≡ true → IsClosed later.seen.order

  -- the call made no event: the own list stays
  pub record MadeNone (before after : Sight M W) : Type 0 where
    pub goes : GoesOn before after
    pub made : after.made ≡ before.made
    pub own : own before.number after.seen.order ≡ own before.number before.seen.order

  -- the same, and one call of the pass is used up
  abbrev pub Looked : Sight M W → Sight M W → Type 0
  Looked before after = MadeNone before after × (before.calls ≡ after.calls + 1)

  -- the call made this event: it is the last of the order, and the own list is the old one and this event; one call is
  -- used up
  pub record Added (entry : Entry M) (before after : Sight M W) : Type 0 where
    pub goes : GoesOn before after
    pub made : after.made ≡ before.made
    pub calls : before.calls ≡ after.calls + 1
    pub front : List (Entry M)
    pub last : after.seen.order ≡ front ++ entry ∷ []
    pub found : StartsWith front before.seen.order
    pub own : own before.number after.seen.order ≡ own before.number before.seen.order ++ entry ∷ []

  -- the message was posted, on a board that was not aborted
  abbrev pub WasPosted : ℕ → ℕ → M → Sight M W → Sight M W → Type 0
  WasPosted job to message before after = Added (Posted to before.number message job) before after × (after.seen.aborted ≡ None)

  -- the message came back: the calls are used up; there was no memory, on a board that was not aborted; or the board
  -- was aborted
  abbrev pub WasRefused : M → PostFault M → Sight M W → Sight M W → Type 0
  WasRefused message (fault.Spent back) before after = (back ≡ message) × WasSpent before after
  WasRefused message (fault.Memory back) before after = (back ≡ message) × Looked before after × (after.seen.aborted ≡ None)
  WasRefused message (fault.Aborted back) before after = (back ≡ message) × Looked before after × IsSome after.seen.aborted

  -- what a post returns: nothing, if the message was posted; else why it came back
  abbrev pub PostReturns : ℕ → ℕ → M → Result (Unit {0}) (PostFault M) → Sight M W → Sight M W → Type 0
  PostReturns job to message answer before after =
      MatchResult answer (λ _. WasPosted job to message before after) (λ why. WasRefused message why before after)

  -- the oldest message not yet taken was taken, of a board that was not aborted; it fits the mailbox, and the job is
  -- that of the take
  pub record TookOldest (job : ℕ) (message : M) (before after : Sight M W) : Type 0 where
    pub sender : ℕ
    pub added : Added (Taken before.number sender message) before after
    pub oldest : TakesOldest (part before.number added.front) (part before.number after.seen.order) message
    pub number : job ≡ length (takes (part before.number added.front))
    pub fit : fits before.seen.world before.number message
    pub alive : after.seen.aborted ≡ None

  -- what a take returns: closed, if the pass knows the close; aborted, if it does not and the board is; else the
  -- oldest message, or that every one is taken
  abbrev pub Took : Result (answers.Taken M) Spent → Sight M W → Sight M W → Type 0
  Took (Err spent) before after = WasSpent before after
  Took (Ok (answer.Message job message)) before after = TookOldest job message before after
  Took (Ok answer.Empty) before after = Looked before after × (after.knows ≡ false) × (after.seen.aborted ≡ None)
      × AllTaken before.number after.seen.order
  Took (Ok answer.Closed) before after = Looked before after × (after.knows ≡ true)
  Took (Ok answer.Aborted) before after = Looked before after × (after.knows ≡ false) × IsSome after.seen.aborted

  -- the take of the job is completed
  abbrev pub WasDone : ℕ → Sight M W → Sight M W → Type 0
  WasDone job before after = Added (Completed before.number job) before after

  -- the take of the job is completed, and then a take answers this
  abbrev pub DidTurn : ℕ → answers.Taken M → Sight M W → Sight M W → Type 0
  DidTurn job taken before after = (between : Sight M W) × WasDone job before between × Took (Ok taken) between after

  -- the calls are used up: before the job's take is completed, which then comes back; or after it
  abbrev pub LeftTurn : ℕ → Option ℕ → Sight M W → Sight M W → Type 0
  LeftTurn job (Some back) before after = (back ≡ job) × WasSpent before after
  LeftTurn job None before after = (between : Sight M W) × WasDone job before between × WasSpent between after

  -- The board is aborted: by this pass for this cause, unless another pass aborted it before; no call is used up, and
  -- the pass made no event. A second abort of the pass changes nothing.
  pub record MadeAbort (abort : Abort) (before after : Sight M W) : Type 0 where
    pub goes : GoesOn before after
    pub made : after.made ≡ true
    pub calls : after.calls ≡ before.calls
    pub own : own before.number after.seen.order ≡ own before.number before.seen.order
    pub first : before.made ≡ false → (first : Abort) × (after.seen.aborted ≡ Some first) × ((first ≡ abort) ⊎ (first.by ≢ before.number))
    pub again : before.made ≡ true → after ≡ before

  -- the pass has seen what it had seen and what it was told, and no more: the longer order, an abort that either
  -- knew, and the close if either knew it
  pub record Learned (told : Account M) (before after : Sight M W) : Type 0 where
    pub none : MadeNone before after
    pub calls : after.calls ≡ before.calls
    pub theirs : StartsWith after.seen.order told.order
    pub longer : (after.seen.order ≡ before.seen.order) ⊎ (after.seen.order ≡ told.order)
    pub abort : (abort : Abort) → told.aborted ≡ Some abort → after.seen.aborted ≡ Some abort
    pub either : (after.seen.aborted ≡ before.seen.aborted) ⊎ (after.seen.aborted ≡ told.aborted)
    pub close : told.knows ≡ true → after.knows ≡ true
    pub known : after.knows ≡ true → (before.knows ≡ true) ⊎ (told.knows ≡ true)

  -- What is left of a board: one lawful order, which begins with each pass's order and has each pass's own list; its
  -- parts are the histories; it is closed if all its histories are, and if some pass knows the close; and the abort
  -- that some pass knows of was made by a pass.
  pub record Settles (boxes : ℕ) (passes : List (Sight M W)) (histories : List (List (Event M))) (closed : Bool) : Type 0 where
    pub order : List (Entry M)
    pub lawful : IsLawful boxes order
    pub fitting : (place : ℕ) (pass : Sight M W) → slice_get passes place ≡ Some pass → (at to sender : ℕ) (message : M) (job : ℕ)
        → slice_get order at ≡ Some (Posted to sender message job) → fits pass.seen.world to message
    pub begins : (place : ℕ) (pass : Sight M W) → slice_get passes place ≡ Some pass → StartsWith order pass.seen.order
    pub own : (number : ℕ) (pass : Sight M W) → slice_get passes number ≡ Some pass → own number order ≡ own number pass.seen.order
    pub count : length histories ≡ boxes
    pub parts : (mailbox : ℕ) (history : List (Event M)) → slice_get histories mailbox ≡ Some history → history ≡ part mailbox order
    pub close : IsTrue closed ↔ IsClosed order
    pub known : (place : ℕ) (pass : Sight M W) → slice_get passes place ≡ Some pass → pass.knows ≡ true → closed ≡ true
    pub aborts : (place : ℕ) (pass : Sight M W) (abort : Abort) → slice_get passes place ≡ Some pass → pass.seen.aborted ≡ Some abort
        → (maker : Sight M W) × (slice_get passes abort.by ≡ Some maker) × (maker.made ≡ true)
