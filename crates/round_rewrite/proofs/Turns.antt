-- One thread's turns over rows of globals, one row for each round.
pub use Rattle.language.proofs.Runs.{steps_map, after_map, steps_pick, after_pick, step_runs, no_steps}
use Rattle.std.proofs.Common.{◌≡◌, Bool, List, [], ◌∷◌, refl, ◌⊎◌, inl, inr}
use Rattle.language.specs.Step.{Program, Frame, state, StepsTo, Runs, Fails}

-- a thread's turns: from each row to the row after it, its stack kept between them
abbrev pub Turns : Program → List (List Bool) → List Frame → List (List Bool) → List Frame → Type 0
Turns p [] s [] s' = s' ≡ s
Turns p [] s (g' ∷ G') s' = ⊥
Turns p (g ∷ G) s [] s' = ⊥
Turns p (g ∷ G) s (g' ∷ G') s' = (mid : List Frame) × Runs p (state g s) (state g' mid) × Turns p G mid G' s'

-- turns that come to a failing assert in some row, and leave the rows after it
abbrev pub FailTurns : Program → List (List Bool) → List Frame → List (List Bool) → Type 0
FailTurns p [] s G' = ⊥
FailTurns p (g ∷ G) s [] = ⊥
FailTurns p (g ∷ G) s (g' ∷ G') =
    ((mid : List Frame) × Runs p (state g s) (state g' mid) × Fails (state g' mid) × (G' ≡ G))
    ⊎ ((mid : List Frame) × Runs p (state g s) (state g' mid) × FailTurns p G mid G')

pub idle : (p : Program) (G : List (List Bool)) (s : List Frame) → Turns p G s G s
idle p [] s = refl
idle p (g ∷ G) s = (s, no_steps p (state g s), idle p G s)

-- a step before the turns
pub step_turns : (p : Program) (g h : List Bool) (G : List (List Bool)) (s t : List Frame) (g' : List Bool) (G' : List (List Bool))
    (s' : List Frame) → StepsTo p (state g s) (λ u. u ≡ state h t) → Turns p (h ∷ G) t (g' ∷ G') s'
    → Turns p (g ∷ G) s (g' ∷ G') s'
step_turns p g h G s t g' G' s' step (mid, run, more) = (mid, step_runs p (state g s) (state h t) (state g' mid) step run, more)

pub step_fails : (p : Program) (g h : List Bool) (G : List (List Bool)) (s t : List Frame) (g' : List Bool) (G' : List (List Bool))
    → StepsTo p (state g s) (λ u. u ≡ state h t) → FailTurns p (h ∷ G) t (g' ∷ G') → FailTurns p (g ∷ G) s (g' ∷ G')
step_fails p g h G s t g' G' step (inl (mid, run, fails, e)) =
    inl (mid, step_runs p (state g s) (state h t) (state g' mid) step run, fails, e)
step_fails p g h G s t g' G' step (inr (mid, run, more)) = inr (mid, step_runs p (state g s) (state h t) (state g' mid) step run, more)
