-- The result of a frame: 0 at first, and then what was returned.
use Rattle.std.proofs.Common.{◌≡◌, ℕ, zero, suc, ◌+◌, ◌≤◌, ◌<◌, List, [], ◌∷◌, ◌++◌, Bool, true, false}
use Rattle.std.proofs.Common.{cond, Some, length, refl, ◌∙◌, ap, arith}
use Rattle.std.proofs.lemmas.List.{get_or-set_same}
use Rattle.language.specs.Value.{bit, with_bit}
use Rattle.language.specs.Step.{Routine, zeros, fresh, frame_size, result_of, with_result}

pub zeros_bit : (n i : ℕ) → bit (zeros n) i ≡ false
zeros_bit (suc n) (suc i) = zeros_bit n i
zeros_bit _ _ = refl

-- after the values that are given all are 0
behind_bit : (vs : List Bool) (n i : ℕ) → length vs ≤ i → bit (vs ++ zeros n) i ≡ false
behind_bit [] n i few = zeros_bit n i
behind_bit (v ∷ vs) n zero few = absurd (omega arith)
behind_bit (v ∷ vs) n (suc i) few = behind_bit vs n i (omega arith)

either_false : (b v : Bool) → v ≡ false → cond b v false ≡ false
either_false true v e = e
either_false false v e = refl

-- a new frame has the result 0
pub fresh_result : (routine : Routine) (vs : List Bool) → length vs ≤ routine.places
    → result_of (Some routine) (fresh (frame_size routine) vs) ≡ false
fresh_result routine vs few =
    either_false routine.gives (bit (fresh (frame_size routine) vs) routine.places) (behind_bit vs _ routine.places few)

-- what is returned in a frame of a procedure that gives a value is its result
pub given_result : (routine : Routine) (l : List Bool) (v : Bool) → routine.gives ≡ true → length l ≡ frame_size routine
    → result_of (Some routine) (with_result (Some routine) l v) ≡ v
given_result routine l v gives long =
    let size : frame_size routine ≡ routine.places + 1 = ap (λ b. routine.places + cond b 1 0) gives in
    let inside : routine.places < length l = omega (arith, size, long) in
    ap (λ b. cond b (bit (with_bit l routine.places v) routine.places) false) gives ∙ get_or-set_same l routine.places v false inside
