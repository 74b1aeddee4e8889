-- Runs of the plain machine that come to a property.
use Rattle.std.proofs.Common.{◌≡◌, ℕ, zero, suc, ◌<◌, Bool, List, ◌∷◌, refl, arith}
use Rattle.language.specs.Step.{Frame, State, state}
use Rattle.round_rewrite.proofs.Plain.{World, PlainSteps, PlainAfter}

-- some run leads from s to a state with the property
abbrev pub Leads : World → State → (State → Type 0) → Type 0
Leads w s Q = (n : ℕ) × PlainAfter w n s Q

-- no state whose frames below the top are these has the property
abbrev pub Never : (State → Type 0) → List Frame → Type 0
Never Q fs = (g : List Bool) (f : Frame) → Q (state g (f ∷ fs)) → ⊥

-- such a state is not yet there: there is a first step
pub unstep : (w : World) (Q : State → Type 0) (n : ℕ) (g : List Bool) (f : Frame) (fs : List Frame) → Never Q fs
    → PlainAfter w n (state g (f ∷ fs)) Q → (m : ℕ) × (n ≡ suc m) × PlainSteps w (state g (f ∷ fs)) (λ t. PlainAfter w m t Q)
unstep w Q zero g f fs never h = absurd (never g f h)
unstep w Q (suc m) g f fs never h = (m, refl, h)

-- after fewer than n steps from s the property holds
abbrev pub Later : World → ℕ → State → (State → Type 0) → Type 0
Later w n s Q = (m : ℕ) × (m < n) × PlainAfter w m s Q

pub later : (w : World) (Q : State → Type 0) (s : State) (n m : ℕ) → n ≡ suc m → Later w m s Q → Later w n s Q
later w Q s n m e (k, lt, h) = (k, omega arith, h)

pub later_now : (w : World) (Q : State → Type 0) (s : State) (n m : ℕ) → n ≡ suc m → PlainAfter w m s Q → Later w n s Q
later_now w Q s n m e h = (m, omega arith, h)
