-- Histories: the opening value, and then each value left, in order.
use Rattle.std.specs.Prelude.{◌≡◌, ℕ, ◌≤◌, List, [], ◌∷◌, ◌++◌, length, nat_lt, if◌then◌else◌}
use mathlib.Core.Option.{some}
use lib.ListN.{get_elem?}

module _ {A : Type 0} where
  -- the history continues from what was seen
  abbrev pub StartsWith : List A → List A → Type 0
  StartsWith log seen = (rest : List A) × (log ≡ seen ++ rest)

  -- the value is the last of the history
  abbrev pub EndsIn : List A → A → Type 0
  EndsIn log last = (front : List A) × (log ≡ front ++ last ∷ [])

  -- the longer of two histories, and the first if they are equally long
  abbrev pub longer : List A → List A → List A
  longer one other = if nat_lt (length one) (length other) then other else one

  -- each value of the history comes before itself and before each later one
  abbrev pub IsRising : (A → A → Type 0) → List A → Type 0
  IsRising before log = (earlier later : ℕ) (value next : A) → earlier ≤ later → get_elem? log earlier ≡ some value
      → get_elem? log later ≡ some next → before value next
