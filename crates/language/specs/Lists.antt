-- Relations on lists.
use Rattle.std.specs.Prelude.{◌≡◌, ◌⊎◌, List, [], ◌∷◌}
use mathlib.Core.HLevel.{×_prop, Unit-prop}

-- x is in the list
abbrev pub Member : {A : Type 0} → A → List A → Type 0
Member x [] = ⊥
Member x (y ∷ ys) = (x ≡ y) ⊎ Member x ys

-- nothing occurs twice in the list
abbrev pub NoneTwice : {A : Type 0} → List A → Type 0
NoneTwice [] = Unit {0}
NoneTwice (x ∷ xs) = (Member x xs → ⊥) × NoneTwice xs

-- this has at most one proof, so a type may carry it
pub NoneTwice-prop : {A : Type 0} (xs : List A) → IsProp (NoneTwice xs)
NoneTwice-prop [] = Unit-prop
NoneTwice-prop (x ∷ xs) = ×_prop (λ f g i m. let e : f m ≡ g m = absurd (f m) in e i) (NoneTwice-prop xs)
