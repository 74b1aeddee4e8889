-- What the procedures of a program do as a whole.
use Rattle.std.specs.Prelude.{ℕ, List}
use Rattle.summaries.specs.declared.pair.Pair.{Pair}

-- the valuations with which a procedure is entered, by number, and its pairs
pub record Effect : Type 0 where
  pub entries : List ℕ
  pub pairs : List Pair

-- the effects of a program's procedures, by number, and the bit that tells whether a pair is bad
pub record Effects : Type 0 where
  pub procedures : List Effect
  pub bad : ℕ
