-- Words that a reader may take for each other.
use Rattle.std.specs.Prelude.{ℕ, ◌+◌, ◌==◌, ◌&&◌, ◌||◌, Bool, false, List, [], ◌∷◌, bytes_eq, drop, if◌then◌else◌, length, nat_lt}
use Rattle.std.specs.Str.{str_eq_ignore_ascii_case}

-- how many letters two words have in common at their beginnings
unfoldable pub common : List ℕ → List ℕ → ℕ
common [] other = 0
common (a ∷ word) [] = 0
common (a ∷ word) (b ∷ other) = if a == b then common word other + 1 else 0

-- The first two letters are swapped, and the others are the same.
abbrev pub are_swapped : List ℕ → List ℕ → Bool
are_swapped (a ∷ b ∷ word) (c ∷ d ∷ other) = a == d && b == c && bytes_eq word other
are_swapped _ _ = false

-- The first letter is replaced, left out or added, or swapped with the second, and the others are the same.
abbrev pub are_close : List ℕ → List ℕ → Bool
are_close word other =
    bytes_eq (drop 1 word) (drop 1 other) || bytes_eq (drop 1 word) other || bytes_eq word (drop 1 other) || are_swapped word other

-- Not both words have at most one letter.
abbrev pub have_letters : List ℕ → List ℕ → Bool
have_letters word other = nat_lt 1 (length word) || nat_lt 1 (length other)

-- The words differ by the case of letters alone; or, unless both have one letter, by one that is replaced, left out or
-- added, or by a swap of two neighbours, after what they have in common.
abbrev pub is_near : List ℕ → List ℕ → Bool
is_near word other =
    str_eq_ignore_ascii_case word other
    || have_letters word other
    && are_close (drop (common word other) word) (drop (common word other) other)
