-- How far is explored.
use Rattle.std.specs.Prelude.{◌≤◌, ℕ}
use Rattle.exploration.specs.declared.limits.Rounds.{Rounds}
use Rattle.exploration.specs.declared.limits.Rounds.TheVariants.{AtMost, All}
use Rattle.exploration.specs.declared.limits.WorkLimit.{WorkLimit}

-- how much is found and met at most
abbrev pub most_of : WorkLimit → ℕ
most_of limit = limit.most

-- the number of rounds is one of those asked for
abbrev pub IsAsked : Rounds → ℕ → Type 0
IsAsked (AtMost most) rounds = rounds ≤ most
IsAsked All rounds = Unit {0}
