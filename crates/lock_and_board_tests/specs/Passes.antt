-- What a row keeps of a pass.
use Rattle.std.specs.Prelude.{◌≡◌, ℕ}
use Rattle.post_ledger.specs.Orders.{HasJob}
use Rattle.switchboard.specs.Sights.{Sight}

module _ {M W : Type 0} where
  -- the pass is the same, of the same board
  abbrev pub IsSame : Sight M W → Sight M W → Type 0
  IsSame s t = (t.board ≡ s.board) × (t.number ≡ s.number) × (t.seen.boxes ≡ s.seen.boxes)

  -- the pass with this number, of a board with a given number of mailboxes
  abbrev pub IsPassNumbered : ℕ → ℕ → Sight M W → Type 0
  IsPassNumbered n boxes s = (s.number ≡ n) × (s.seen.boxes ≡ boxes)

  -- the pass has the jobs that it had
  abbrev pub KeepsJobs : Sight M W → Sight M W → Type 0
  KeepsJobs s t = (j : ℕ) → HasJob s.number j s.seen.order → HasJob t.number j t.seen.order
