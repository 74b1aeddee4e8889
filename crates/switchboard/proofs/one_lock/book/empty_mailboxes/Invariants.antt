-- Each mailbox so far is empty, and there is room for the rest.
use Rattle.std.proofs.Common.{◌≡◌, ◌≤◌, ℕ, List, [], Some, length, slice_get, vec_capacity}
use Rattle.post_ledger.specs.declared.event.Event.{Event}
use Rattle.switchboard.proofs.one_lock.book.empty_mailboxes.Given as goal

abbrev pub invariant-loop-number : goal.invariant-loop-number
invariant-loop-number g l = (length l.mailboxes.items ≡ l.number) × (l.boxes ≤ vec_capacity l.mailboxes)
    × ((q : ℕ) (h : List (Event _)) → slice_get l.mailboxes.items q ≡ Some h → h ≡ [])
