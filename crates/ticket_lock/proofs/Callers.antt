-- What callers of a lock need of its lanes.
use Rattle.std.proofs.Common.{ℕ, zero, suc, refl, arith, All}
use Rattle.atomic_table.specs.Seated.{TableId}
use Rattle.ticket_lock.specs.Lanes.{fresh_lanes}
use Rattle.ticket_lock.specs.Promises.{IsIdle}

module _ {T : Type 0} where
  -- the lanes of a new lock have no ticket and no guard
  pub fresh_idle : (id : TableId) (budget : ℕ) (x : T) (first count : ℕ) → All (IsIdle id) (fresh_lanes id budget x first count)
  fresh_idle id budget x first zero k d h = absurd (omega arith)
  fresh_idle id budget x first (suc count) zero d h = (refl, refl, refl)
  fresh_idle id budget x first (suc count) (suc k) d h = fresh_idle id budget x (suc first) count k d (omega arith)
