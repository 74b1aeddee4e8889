-- What a row keeps of its passes and their jobs.
use Rattle.std.specs.Prelude.{◌≡◌, ◌≢◌, ℕ, Option, Some, None}
use Rattle.std.specs.Option.{ForSome}
use Rattle.atomic_table.specs.Seated.{TableId}
use Rattle.post_ledger.specs.Orders.{HasJob}
use Rattle.switchboard.specs.Sights.{Sight, Account}
use Rattle.analysis_tests.specs.declared.boards.row.Row.{Row}

module _ {M W : Type 0} where
  -- the pass is the same, of the same board
  abbrev pub IsSame : Sight M W → Sight M W → Type 0
  IsSame s t = (t.board ≡ s.board) × (t.number ≡ s.number) × (t.seen.boxes ≡ s.seen.boxes)

  -- the pass has the job, if there is one
  abbrev pub Has : Sight M W → Option ℕ → Type 0
  Has s job = ForSome job (λ j. HasJob s.number j s.seen.order)

  -- Of the jobs of the pass only this one, if there is one, may be spent.
  pub record Spends (s t : Sight M W) (job : Option ℕ) : Type 0 where
    pub same : IsSame s t
    pub others : (j : ℕ) → HasJob s.number j s.seen.order → job ≢ Some j → HasJob t.number j t.seen.order

  -- What a call leaves that concerns the place of one job: the pass has the job that is then in that place, if any,
  -- and each other job that it had, none of which is in that place.
  pub record LeavesJob (s t : Sight M W) (old new : Option ℕ) : Type 0 where
    pub spends : Spends s t old
    pub has : Has t new
    pub others : (j : ℕ) → HasJob s.number j s.seen.order → old ≢ Some j → new ≢ Some j

  -- The pass of this number of this board of two mailboxes, with two jobs, if it has them, which differ.
  pub record IsSide (id : TableId) (n : ℕ) (s : Sight M W) (a b : Option ℕ) : Type 0 where
    pub board : s.board ≡ id
    pub number : s.number ≡ n
    pub boxes : s.seen.boxes ≡ 2
    pub first : Has s a
    pub second : Has s b
    pub apart : (j : ℕ) → a ≡ Some j → b ≢ Some j

module _ {P T M W : Type 0} (sight : P → Sight M W) (account : T → Account M) where
  -- The passes are those of this board of two mailboxes, their jobs are their own, and what was told belongs to the
  -- board.
  pub record IsRow (id : TableId) (r : Row P T) : Type 0 where
    pub zero : IsSide id 0 (sight r.zero) r.j0 None
    pub one : IsSide id 1 (sight r.one) r.j1 r.j2
    pub told : ForSome r.told (λ t. (account t).board ≡ id)
