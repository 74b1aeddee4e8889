-- Path edges.
use Rattle.std.specs.Prelude.{ℕ}

-- a path edge: a valuation on entry, a point that is reached from it, and a valuation there
pub record Triple : Type 0 where
  pub entry : ℕ
  pub point : ℕ
  pub values : ℕ

-- the path edge of these three
abbrev pub triple : ℕ → ℕ → ℕ → Triple
triple entry point values = record { entry = entry; point = point; values = values }
