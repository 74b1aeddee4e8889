-- How many values are written, entered with, and given by expressions.
use Rattle.std.proofs.Common.{◌≡◌, ℕ, zero, suc, ◌+◌, ◌-◌, ◌≤◌, List, [], ◌∷◌, Bool, Option, Some, None, cond}
use Rattle.std.proofs.Common.{refl, ◌∙◌, ap, arith, length}
use Rattle.std.proofs.lemmas.List.{length-append, length-set}
use Rattle.language.specs.Tree.{Expression}
use Rattle.language.specs.Value.{Place, global, local, values_of, with_bit, written_globals, written_locals}
use Rattle.language.specs.Step.{Routine, zeros, fresh, frame_size, with_result}

pub length_zeros : (n : ℕ) → length (zeros n) ≡ n
length_zeros zero = refl
length_zeros (suc n) = ap suc (length_zeros n)

pub length_fresh : (n : ℕ) (arguments : List Bool) → length arguments ≤ n → length (fresh n arguments) ≡ n
length_fresh n arguments few =
    let all : length (fresh n arguments) ≡ length arguments + length (zeros (n - length arguments)) =
    length-append arguments (zeros (n - length arguments)) in
    let more : length (zeros (n - length arguments)) ≡ n - length arguments = length_zeros (n - length arguments) in
    omega (arith, all, more, few)

-- another result changes no length
pub length_result : (o : Option Routine) (l : List Bool) (v : Bool) → length (with_result o l v) ≡ length l
length_result None l v = refl
length_result (Some routine) l v = length-set l routine.places v

-- a frame has a value for each place
pub places_within : (routine : Routine) → routine.places ≤ frame_size routine
places_within routine = within routine.places (cond routine.gives 1 0)
  where
    within : (n k : ℕ) → n ≤ n + k
    within n k = omega arith

pub length_values : (g l : List Bool) (es : List (Expression Place)) → length (values_of g l es) ≡ length es
length_values g l [] = refl
length_values g l (e ∷ es) = ap suc (length_values g l es)

pub length_globals : (xs : List Place) (vs g : List Bool) → length (written_globals xs vs g) ≡ length g
length_globals (global n ∷ xs) (v ∷ vs) g = length_globals xs vs (with_bit g n v) ∙ length-set g n v
length_globals (local n ∷ xs) (v ∷ vs) g = length_globals xs vs g
length_globals _ _ g = refl

pub length_locals : (xs : List Place) (vs l : List Bool) → length (written_locals xs vs l) ≡ length l
length_locals (global n ∷ xs) (v ∷ vs) l = length_locals xs vs l
length_locals (local n ∷ xs) (v ∷ vs) l = length_locals xs vs (with_bit l n v) ∙ length-set l n v
length_locals _ _ l = refl
