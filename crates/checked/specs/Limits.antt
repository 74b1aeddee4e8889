-- The limits of what is checked.
use Rattle.std.specs.Prelude.{ℕ}

-- how many procedures a program has at most
abbrev pub most_procedures : ℕ
most_procedures = 31

-- how many thread lines
abbrev pub most_threads : ℕ
most_threads = 8

-- how many statements, over all procedures
abbrev pub most_statements : ℕ
most_statements = 1000
