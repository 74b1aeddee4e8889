-- Where a run is in its rounds.
use Rattle.std.specs.Prelude.{◌≡◌, ◌<◌, ◌⊎◌, ℕ, suc}
use Rattle.exploration.specs.declared.moment.Moment.{Moment}

-- of this many threads, the next turn is that of the next thread, or of the first one in the next round
abbrev pub ComesNext : ℕ → ℕ → ℕ → ℕ → ℕ → Type 0
ComesNext threads round thread round' thread' =
    ((suc thread < threads) × (round' ≡ round) × (thread' ≡ suc thread))
    ⊎ ((suc thread ≡ threads) × (round' ≡ suc round) × (thread' ≡ 0))

-- the one turn follows the other
abbrev pub Follows : ℕ → Moment → Moment → Type 0
Follows threads moment next = ComesNext threads moment.round moment.thread next.round next.thread
