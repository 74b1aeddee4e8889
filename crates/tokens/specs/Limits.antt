-- The limit of what is read.
use Rattle.std.specs.Prelude.{ℕ}

-- how many bytes a text has at most
abbrev pub most_bytes : ℕ
most_bytes = 65536
