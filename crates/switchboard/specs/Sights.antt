-- What a board keeps, and what a pass has seen of it.
use Rattle.std.specs.Prelude.{◌≡◌, ℕ, zero, suc, ◌-◌, ◌<◌, Bool, false, List, [], ◌∷◌, Option, Some, None, length}
use Rattle.std.specs.Prelude.{slice_get}
use Rattle.atomic_table.specs.Seated.{TableId}
use Rattle.ticket_lock.specs.History.{StartsWith}
use Rattle.post_ledger.specs.declared.entry.Entry.{Entry}
use Rattle.post_ledger.specs.declared.entry.Entry.TheVariants.{Posted}
use Rattle.post_ledger.specs.History.{posts, takes}
use Rattle.post_ledger.specs.Orders.{part, IsLawful}
use Rattle.switchboard.specs.declared.calls.Abort.{Abort}

-- the world of its messages, the number of its mailboxes, the order of its events, and its first abort, if there was
-- one
pub record BoardState (M W : Type 0) : Type 0 where
  pub world : W
  pub boxes : ℕ
  pub order : List (Entry M)
  pub aborted : Option Abort

-- a pass: its board and its number, how many calls it has left, whether it made an abort, whether it knows the close,
-- and the state of the board as it has seen it
pub record Sight (M W : Type 0) : Type 0 where
  pub board : TableId
  pub number : ℕ
  pub calls : ℕ
  pub made : Bool
  pub knows : Bool
  pub seen : BoardState M W

-- what a pass told: its board, whether it knew the close, and the order and the abort that it had seen
pub record Account (M : Type 0) : Type 0 where
  pub board : TableId
  pub knows : Bool
  pub order : List (Entry M)
  pub aborted : Option Abort

-- the abort that stands after one more: the first
abbrev pub abort_of : Option Abort → Abort → Option Abort
abort_of None a = Some a
abort_of (Some b) a = Some b

-- every message that was posted to the mailbox is taken
abbrev pub AllTaken : {M : Type 0} → ℕ → List (Entry M) → Type 0
AllTaken mailbox order = length (posts (part mailbox order)) ≡ length (takes (part mailbox order))

module _ {M W : Type 0} where
  -- a board on which nothing but the opening post was made
  abbrev pub opened : W → ℕ → ℕ → M → BoardState M W
  opened world boxes to first = record { world = world; boxes = boxes; order = Posted to boxes first 0 ∷ []; aborted = None }

  -- the second state continues from the first: its order begins with the first's, and the first's abort stays
  pub record Before (before after : BoardState M W) : Type 0 where
    pub world : after.world ≡ before.world
    pub boxes : after.boxes ≡ before.boxes
    pub order : StartsWith after.order before.order
    pub aborted : (abort : Abort) → before.aborted ≡ Some abort → after.aborted ≡ Some abort

  -- what a pass tells of what it has seen
  abbrev pub told_by : Sight M W → Account M
  told_by sight = record { board = sight.board; knows = sight.knows; order = sight.seen.order; aborted = sight.seen.aborted }

  -- a pass that has seen the opening post alone
  abbrev pub fresh_sight : TableId → ℕ → BoardState M W → ℕ → Sight M W
  fresh_sight id budget state number = record {
    board = id;
    number = number;
    calls = budget - 1;
    made = false;
    knows =
        false;
    seen = state;
  }

  -- a given number of passes, numbered from `first` on
  abbrev pub fresh_sights : TableId → ℕ → BoardState M W → ℕ → ℕ → List (Sight M W)
  fresh_sights id budget state first zero = []
  fresh_sights id budget state first (suc count) = fresh_sight id budget state first ∷ fresh_sights id budget state (suc first) count

  module _ (fits : W → ℕ → M → Type 0) where
    -- sound: the order is lawful, each message posted fits its mailbox, and an abort is by one of the passes
    pub record IsSound (state : BoardState M W) : Type 0 where
      pub lawful : IsLawful state.boxes state.order
      pub fitting : (at to sender : ℕ) (message : M) (job : ℕ) → slice_get state.order at ≡ Some (Posted to sender message job)
          → fits state.world to message
      pub by : (abort : Abort) → state.aborted ≡ Some abort → abort.by < state.boxes
