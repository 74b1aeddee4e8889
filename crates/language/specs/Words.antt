-- Valuations as numbers.
use Rattle.std.specs.Prelude.{ℕ}

-- how many bits a valuation has
abbrev pub word_bits : ℕ
word_bits = 128
