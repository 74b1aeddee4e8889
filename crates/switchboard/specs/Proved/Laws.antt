-- The law of the states that a lock keeps for a board.
use Rattle.std.proofs.Common.{ℕ, refl, ◌∙◌}
use Rattle.ticket_lock.specs.Proved.Facts.{StartsWith-refl, StartsWith-trans}
use Rattle.switchboard.specs.Sights.{BoardState, Before}
use Rattle.switchboard.specs.Passes.{Comes}

module _ {M W : Type 0} where
  pub before_refl : (s : BoardState M W) → Before s s
  before_refl s = record { world = refl; boxes = refl; order = StartsWith-refl s.order; aborted = λ a e. e }

  pub before_trans : (s t u : BoardState M W) → Before s t → Before t u → Before s u
  before_trans s t u p q = record {
    world = q.world ∙ p.world;
    boxes = q.boxes ∙ p.boxes;
    order = StartsWith-trans u.order t.order s.order q.order p.order;
    aborted = λ a e. q.aborted a (p.aborted a e);
  }

  module _ (fits : W → ℕ → M → Type 0) where
    pub comes_refl : (s : BoardState M W) → Comes fits s s
    comes_refl s = (before_refl s, λ sound. sound)

    pub comes_trans : (s t u : BoardState M W) → Comes fits s t → Comes fits t u → Comes fits s u
    comes_trans s t u p q = (before_trans s t u p.0 q.0, λ sound. q.1 (p.1 sound))
