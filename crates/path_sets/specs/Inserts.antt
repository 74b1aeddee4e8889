-- One more item in a list.
use Rattle.std.specs.Prelude.{◌≡◌, ◌+◌, ◌↔◌, ◌⊎◌, Bool, true, false, List, ◌∷◌, length, if◌then◌else◌}
use Rattle.std.specs.Bool.{OnTrue, OnFalse}
use Rattle.language.specs.Lists.{Member}

-- the second list is the first with x put in at one key
pub data Inserts {A : Type 0} (x : A) : List A → List A → Type 0 where
  here : (xs : List A) → Inserts x xs (x ∷ xs)
  there : (y : A) (xs ys : List A) → Inserts x xs ys → Inserts x (y ∷ xs) (y ∷ ys)

-- x was not a member and was put in, or it was one and the list is the same; the result says which
abbrev pub PutsIn : {A : Type 0} → A → List A → List A → Bool → Type 0
PutsIn x old new true = Inserts x old new × (Member x old → ⊥)
PutsIn x old new false = (new ≡ old) × Member x old

-- the members of the second list are x and those of the first
abbrev pub HasAlso : {A : Type 0} → A → List A → List A → Type 0
HasAlso {A} x old new = (y : A) → Member y new ↔ ((y ≡ x) ⊎ Member y old)

-- x was no member if the flag is true, and was one if it is false
abbrev pub IsNewIf : {A : Type 0} → A → List A → Bool → Type 0
IsNewIf x old added = OnTrue added (¬ Member x old) × OnFalse added (Member x old)

-- the second list is longer by one if the flag is true, and else as long as the first
abbrev pub IsLongerIf : {A : Type 0} → List A → List A → Bool → Type 0
IsLongerIf old new added = length new ≡ length old + (if added then 1 else 0)
