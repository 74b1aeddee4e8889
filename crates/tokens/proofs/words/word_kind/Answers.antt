use Rattle.std.proofs.Common.{◌≡◌, ◌<◌, ℕ, List, [], ◌∷◌, length, false, sym, ◌∙◌, arith, slice_index_or}
use Rattle.std.specs.Char.{is_ascii_digit}
use Rattle.tokens.specs.Spelling.{BeginsName, reserved, name}
use Rattle.tokens.proofs.words.word_kind.Goals as goal

pub returns-in-Some-clause-some : goal.returns-in-Some-clause-some
returns-in-Some-clause-some c = reserved c.in-Some.ensures.some

-- A word with a first byte that is not a digit begins a name.
begins : (word : List ℕ) → 0 < length word → is_ascii_digit (slice_index_or word 0 0) ≡ false → BeginsName word
begins [] some other = omega arith
begins (b ∷ word) some other = other

pub returns-else-is_ascii_digit-clause-some : goal.returns-else-is_ascii_digit-clause-some
returns-else-is_ascii_digit-clause-some c = name (record {
  begins = begins _ c.requires.some (rw c.as_bytes.ensures.value at (sym c.is_ascii_digit.ensures.value ∙ c.if-is_ascii_digit.false));
  bytes = c.requires.bytes;
  no_keyword = c.in_default.ensures.none;
})
