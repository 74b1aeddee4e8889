-- What the calls of a book do to the state of the board.
use Rattle.std.specs.Prelude.{◌≡◌, ℕ, ◌*◌, ◌≤◌, List, [], ◌∷◌, ◌++◌, Some, None, IsSome, length, slice_get}
use Rattle.post_ledger.specs.declared.event.Event.{Event}
use Rattle.post_ledger.specs.declared.entry.Entry.{Entry}
use Rattle.post_ledger.specs.declared.entry.Entry.TheVariants as entry
use Rattle.post_ledger.specs.History.{posts, takes}
use Rattle.post_ledger.specs.Orders.{part, posted, completed, IsLawful, IsClosed}
use Rattle.switchboard.specs.declared.calls.PostFault.{PostFault}
use Rattle.switchboard.specs.declared.calls.PostFault.TheVariants as fault
use Rattle.switchboard.specs.declared.calls.Taken.{Taken}
use Rattle.switchboard.specs.declared.calls.Taken.TheVariants as answer
use Rattle.switchboard.specs.Sights.{BoardState, AllTaken}

-- What a book keeps: its order is lawful, each history is the order's projection to its mailbox, its numbers are
-- those of the Posts and the Dones, and there is room for the Take and the Done that each Post still owes.
pub record IsBook {M : Type 0} (histories : List (List (Event M))) (order : List (Entry M)) (capacity posts dones : ℕ) : Type 0 where
  pub lawful : IsLawful (length histories) order
  pub parts : (mailbox : ℕ) (history : List (Event M)) → slice_get histories mailbox ≡ Some history → history ≡ part mailbox order
  pub few : length histories ≤ 64
  pub all_posted : posts ≡ posted order
  pub all_completed : dones ≡ completed order
  pub room : 3 * posts ≤ capacity

module _ {M W : Type 0} where
  -- the state with one more event
  abbrev pub with_new_event : Entry M → BoardState M W → BoardState M W
  with_new_event event state = record state { order = state.order ++ event ∷ [] }

  -- the oldest message of the mailbox that was not taken is taken, on a board that is not aborted; the job is that of
  -- this take
  pub record BoardGivesOldest (by job : ℕ) (message : M) (earlier later : BoardState M W) : Type 0 where
    pub sender : ℕ
    pub oldest : slice_get (posts (part by earlier.order)) (length (takes (part by earlier.order))) ≡ Some (sender, message)
    pub number : job ≡ length (takes (part by earlier.order))
    pub after : later ≡ with_new_event (entry.Taken by sender message) earlier
    pub alive : earlier.aborted ≡ None

  -- closed, if the order is; aborted, if it is not and the board is; else the oldest message, or that every one is
  -- taken
  abbrev pub TakeAnswers : ℕ → Taken M → BoardState M W → BoardState M W → Type 0
  TakeAnswers by (answer.Message job message) before after = BoardGivesOldest by job message before after
  TakeAnswers by answer.Empty before after = (after ≡ before) × (IsClosed before.order → ⊥) × (before.aborted ≡ None)
      × AllTaken by before.order
  TakeAnswers by answer.Closed before after = (after ≡ before) × IsClosed before.order
  TakeAnswers by answer.Aborted before after = (after ≡ before) × (IsClosed before.order → ⊥) × IsSome before.aborted

  -- the message comes back and nothing changes: there was no memory, on a board that is not aborted, or the board is
  -- aborted
  abbrev pub RefusesPost : M → PostFault M → BoardState M W → BoardState M W → Type 0
  RefusesPost message (fault.Spent back) before after = ⊥
  RefusesPost message (fault.Memory back) before after = (back ≡ message) × (after ≡ before) × (before.aborted ≡ None)
  RefusesPost message (fault.Aborted back) before after = (back ≡ message) × (after ≡ before) × IsSome before.aborted

  -- the histories are the parts of the order
  pub record AreParts (histories : List (List (Event M))) (state : BoardState M W) : Type 0 where
    pub count : length histories ≡ state.boxes
    pub each : (mailbox : ℕ) (history : List (Event M)) → slice_get histories mailbox ≡ Some history → history ≡ part mailbox state.order
