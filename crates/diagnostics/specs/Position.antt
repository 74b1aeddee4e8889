-- Where an offset of a text is.
use Rattle.std.specs.Prelude.{◌≡◌, ◌≢◌, ℕ, ◌+◌, ◌-◌, ◌<◌, ◌≤◌, ◌==◌, List, count_by, length, slice_index}
use Rattle.std.specs.Prelude.{slice_range, take}

-- how many newlines some bytes contain
abbrev pub newlines : List ℕ → ℕ
newlines bytes = count_by (λ byte. byte == 10) bytes

-- The offset is in the line that goes from `start` to `end`: the line contains no newline, there is one before it
-- unless it is the first, and one after it unless it is the last. The line's number is one more than the number of
-- newlines before the offset, and the column is one more than the number of bytes of the line before it; `behind` is
-- the rest of the line.
pub record IsPosition (text : List ℕ) (at line column : ℕ) (before behind : List ℕ) : Type 0 where
  pub start : ℕ
  pub end : ℕ
  pub from : start ≤ at
  pub to : at ≤ end
  pub within : end ≤ length text
  pub inside : (k : ℕ) → start ≤ k → k < end → slice_index text k ≢ 10
  pub begins : 0 < start → slice_index text (start - 1) ≡ 10
  pub ends : end < length text → slice_index text end ≡ 10
  pub lines : line ≡ newlines (take at text) + 1
  pub columns : start + column ≡ at + 1
  pub shown : before ≡ slice_range text start at
  pub rest : behind ≡ slice_range text at end
