-- What each member of a list has, each part of it and each member has.
use Rattle.std.proofs.Common.{◌≡◌, ℕ, zero, suc, List, [], ◌∷◌, ◌++◌, Some, slice_get, subst}
use Rattle.std.specs.List.{AllByRecursion}
use Rattle.language.specs.Step.{Routine}

pub each_left : {X : Type 0} (P : X → Type 0) (xs ys : List X) → AllByRecursion P (xs ++ ys) → AllByRecursion P xs
each_left P [] ys h = tt
each_left P (x ∷ xs) ys h = (h.0, each_left P xs ys h.1)

pub each_right : {X : Type 0} (P : X → Type 0) (xs ys : List X) → AllByRecursion P (xs ++ ys) → AllByRecursion P ys
each_right P [] ys h = h
each_right P (x ∷ xs) ys h = each_right P xs ys h.1

pub each_at : (P : Routine → Type 0) (rs : List Routine) (c : ℕ) (r : Routine) → AllByRecursion P rs → slice_get rs c ≡ Some r → P r
each_at P [] c r h e = cc
each_at P (x ∷ rs) zero r h e = let same : x ≡ r = cc in subst P same h.0
each_at P (x ∷ rs) (suc c) r h e = each_at P rs c r h.1 e
