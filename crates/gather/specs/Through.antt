-- What the histories of a board say once all of its messages are dealt with.
use Rattle.std.specs.Prelude.{◌≡◌, ℕ, List, [], ◌++◌, Some, length, slice_get}
use Rattle.post_ledger.specs.declared.event.Event.{Event}
use Rattle.post_ledger.specs.declared.entry.Entry.{Entry}
use Rattle.post_ledger.specs.History.{posts, takes}
use Rattle.post_ledger.specs.Sides.{sent, taken}
use Rattle.post_ledger.specs.Orders.{part, IsLawful, IsClosed}

-- The histories are the parts of one lawful order. In each mailbox the messages posted were taken, each once and in the
-- order of posting, and so were each sender's; and nothing was posted, or happened at all, after the close.
pub record AreThrough {M : Type 0} (boxes : ℕ) (histories : List (List (Event M))) : Type 0 where
  pub order : List (Entry M)
  pub lawful : IsLawful boxes order
  pub all : length histories ≡ boxes
  pub parts : (procedure : ℕ) (history : List (Event M)) → slice_get histories procedure ≡ Some history → history ≡ part procedure order
  pub each_taken : (procedure : ℕ) (history : List (Event M)) → slice_get histories procedure ≡ Some history → takes history ≡ posts history
  pub in_order : (procedure sender : ℕ) (history : List (Event M)) → slice_get histories procedure ≡ Some history
      → taken sender history ≡ sent sender history
  pub close : IsClosed order
  pub last : (front rest : List (Entry M)) → order ≡ front ++ rest → IsLawful boxes front → IsClosed front → rest ≡ []
