-- How the lanes of passes come out one at a time.
use Rattle.std.specs.Prelude.{◌≡◌, ℕ, ◌+◌, Bool, ◌∷◌, Option, MatchOption}
use Rattle.std.specs.declared.vec.IntoIter.{IntoIter}
use Rattle.std.specs.Vec.Iter.{into_iter_items, into_iter_len}
use Rattle.ticket_lock.specs.Lanes.{Standing}
use Rattle.switchboard.specs.Sights.{BoardState, Sight}
use Rattle.switchboard.specs.Passes.{sight_of, IsPass}

module _ {M W : Type 0} (fits : W → ℕ → M → Type 0) where
  -- the lane is that of the pass
  abbrev pub IsLaneOf : Standing (BoardState M W) → Sight M W → Type 0
  IsLaneOf lane pass = (w : W) × (boxes : ℕ) × (kept : Bool) × IsPass fits lane w boxes kept × (sight_of lane w boxes kept ≡ pass)

  -- the lane of the first pass that is left comes next, if one is
  abbrev pub Unwraps : {Z : Type 0} → IntoIter (Sight M W) Z → Option (Standing (BoardState M W)) → IntoIter (Sight M W) Z → Type 0
  Unwraps before answer after =
      MatchOption answer ((into_iter_len before ≡ 0) × (into_iter_len after ≡ 0))
      (λ lane. (pass : Sight M W) × (into_iter_items before ≡ pass ∷ into_iter_items after)
      × (into_iter_len after + 1 ≡ into_iter_len before)
      × IsLaneOf lane pass)
