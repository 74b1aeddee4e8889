-- What callers see of a limit.
use Rattle.std.specs.Prelude.{ℕ}
use Rattle.path_sets.specs.declared.edge_limit.EdgeLimit.{EdgeLimit}

-- how many path edges the table of one procedure may hold
abbrev pub most_of : EdgeLimit → ℕ
most_of limit = limit.edges
