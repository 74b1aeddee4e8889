-- The limit of what a set of path edges may be asked to hold.
use Rattle.std.specs.Prelude.{ℕ}

-- how many path edges the table of one procedure may hold at most, whatever limit is asked for
abbrev pub most_edges : ℕ
most_edges = 16777216
