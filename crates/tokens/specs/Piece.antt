-- What is at the front of a text.
use Rattle.std.specs.Prelude.{ℕ, ◌≤◌, List, length, take, drop}
use Rattle.tokens.specs.declared.piece.Piece.{Piece}
use Rattle.tokens.specs.declared.piece.Piece.TheVariants.{Gap, Word, Bad}
use Rattle.tokens.specs.Cuts.{IsGap, IsToken, IsBad}

-- The first bytes are a gap of this length, or a token of that kind and length, or neither is there.
abbrev pub StandsInFront : Piece → List ℕ → Type 0
StandsInFront (Gap n) bytes = (n ≤ length bytes) × IsGap (take n bytes) (drop n bytes)
StandsInFront (Word k n) bytes = (n ≤ length bytes) × IsToken k (take n bytes) (drop n bytes)
StandsInFront Bad bytes = IsBad bytes
