-- Counting in lists.
use Rattle.std.specs.Prelude.{ℕ, ◌+◌, ◌==◌, List, [], ◌∷◌, if◌then◌else◌}

-- how often the number occurs in the list
abbrev pub times : ℕ → List ℕ → ℕ
times number [] = 0
times number (first ∷ rest) = (if first == number then 1 else 0) + times number rest

-- the list without the first such number in it
abbrev pub without : ℕ → List ℕ → List ℕ
without number [] = []
without number (first ∷ rest) = if first == number then rest else first ∷ without number rest

-- the measure of each element, added up
abbrev pub total : {A : Type 0} → (A → ℕ) → List A → ℕ
total measure [] = 0
total measure (first ∷ rest) = measure first + total measure rest
