-- The limit of what is analysed.
use Rattle.std.specs.Prelude.{ℕ}
use Rattle.language.specs.Words.{word_bits}

-- how many places a procedure has at most: each is a bit of a valuation
abbrev pub most_places : ℕ
most_places = word_bits
