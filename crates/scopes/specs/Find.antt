-- What it is to find the least offset with a property.
use Rattle.std.specs.Prelude.{◌≡◌, ℕ, ◌≤◌, nat_le, List, [], ◌∷◌, Option, Some, None, cond, drop}

-- an optional thing, as a list of one or none
abbrev pub as_list : {X : Type 0} → Option X → List X
as_list None = []
as_list (Some x) = x ∷ []

-- nothing, if no number has the property; else the least that has it
abbrev pub IsLeast : (ℕ → Type 0) → Option ℕ → Type 0
IsLeast P None = (n : ℕ) → P n → ⊥
IsLeast P (Some n) = P n × ((m : ℕ) → P m → n ≤ m)

-- the answer is the least number with the property, or nothing if no number has it
pub record Finds (P : ℕ → Type 0) (answer : Option ℕ) : Type 0 where
  pub least : IsLeast P answer

-- of two optional things, the one with the lesser key, and if the keys are equal the first
unfoldable pub lesser_by : {X : Type 0} → (X → ℕ) → Option X → Option X → Option X
lesser_by key None b = b
lesser_by key (Some x) None = Some x
lesser_by key (Some x) (Some y) = cond (nat_le (key x) (key y)) (Some x) (Some y)

-- the lesser of two optional numbers
abbrev pub earlier_of : Option ℕ → Option ℕ → Option ℕ
earlier_of a b = lesser_by (λ n. n) a b

-- the answer is the least of those that R has of the members, one of each
abbrev pub Earliest : {X : Type 0} → (X → Option ℕ → Type 0) → List X → Option ℕ → Type 0
Earliest R [] answer = answer ≡ None
Earliest R (x ∷ xs) answer = (a : Option ℕ) × (b : Option ℕ) × R x a × Earliest R xs b × (answer ≡ earlier_of a b)

-- What a search has found so far goes with every answer for what remains: together they are an answer for
-- the whole.
pub record FoundSoFar (Whole Rest : ℕ → Type 0) (found : Option ℕ) : Type 0 where
  pub goes : (rest : Option ℕ) → Finds Rest rest → Finds Whole (earlier_of found rest)

-- What a search of a list has found before i goes with every answer for the rest: together they are an answer for
-- the list.
pub record EarliestTo {X : Type 0} (R : X → Option ℕ → Type 0) (xs : List X) (i : ℕ) (found : Option ℕ) : Type 0 where
  pub goes : (r : Option ℕ) → Earliest R (drop i xs) r → Earliest R xs (earlier_of found r)
