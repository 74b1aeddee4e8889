-- Runs one after the other, and runs over callers that wait below.
use Rattle.std.proofs.Common.{◌≡◌, ℕ, zero, suc, List, [], ◌∷◌, ◌++◌, Bool, Option, Some, None, inl, inr, refl, sym}
use Rattle.std.proofs.Common.{◌∙◌, ap, subst, slice_get}
use Rattle.language.specs.Tree.{done}
use Rattle.language.specs.Value.{Place}
use Rattle.language.specs.Rest.{Code, target_of}
use Rattle.language.specs.Step.{Program, Frame, frame, waiting, State, state, body_of, result_of, given_back, Step, AfterSteps, Runs}
use Rattle.language.specs.Sequential.{Valuation, Calls, Exit, resumed_with}
use Rattle.language.specs.Flow.{after_first, caller_frame}
use Rattle.language.proofs.Runs.{steps_pick, step_runs, no_steps}
use Rattle.language.proofs.StepKinds.{step_kinds}

steps_then : (p : Program) (n : ℕ) (s t u : State) → AfterSteps p n s (λ v. v ≡ t) → Runs p t u → Runs p s u
steps_then p zero s t u e more = subst (λ z. Runs p z u) (sym e) more
steps_then p (suc n) s t u run more =
    let (v, step, rest) = steps_pick p s (λ v. AfterSteps p n v (λ z. z ≡ t)) run in
    step_runs p s v u step (steps_then p n v t u rest more)

-- a run, and then another
pub runs_then : (p : Program) (s t u : State) → Runs p s t → Runs p t u → Runs p s u
runs_then p s t u (n, run) more = steps_then p n s t u run more

-- a run, and then a step
pub runs_step : (p : Program) (s t u : State) → Runs p s t → Step p t u → Runs p s u
runs_step p s t u run step = runs_then p s t u run (step_runs p t u u step (no_steps p u))

-- the same over more callers
abbrev pub over : List Frame → State → State
over fs (state g stack) = state g (stack ++ fs)

-- some frame is left
abbrev pub HasFrame : State → Type 0
HasFrame (state g []) = ⊥
HasFrame (state g (f ∷ fs)) = Unit {0}

-- what leads to a state with a frame has one
comes_from_frame : (p : Program) (n : ℕ) (s t : State) → AfterSteps p n s (λ u. u ≡ t) → HasFrame t → HasFrame s
comes_from_frame p zero s t e has = subst HasFrame (sym e) has
comes_from_frame p (suc n) (state g []) t run has = absurd run
comes_from_frame p (suc n) (state g (f ∷ fs)) t run has = tt

-- a return that leaves callers is the same over more of them
given_over : (v : Bool) (g : List Bool) (gs fs : List Frame) → HasFrame (given_back v g gs)
    → over fs (given_back v g gs) ≡ given_back v g (gs ++ fs)
given_over v g [] fs has = absurd has
given_over v g (frame c l t ∷ gs) fs has = refl
given_over v g (waiting c l x t ∷ gs) fs has = refl

step_over : (p : Program) (fs : List Frame) (s t : State) → HasFrame t → Step p s t → Step p (over fs s) (over fs t)
step_over p fs (state g (frame q l r ∷ gs)) t has h =
    (step_kinds p q v r (gs ++ fs) (over fs t)).1
    (elim ((step_kinds p q v r gs t).0 h) [
      | inl (v', r', flow, e) ↦ inl (v', r', flow, ap (over fs) e)
      | inr (inl (e, same)) ↦
          inr (inl (e, ap (over fs) same ∙ given_over (result_of (slice_get p.routines q) l) g gs fs (subst HasFrame same has)))
      | inr (inr (n, a, calls, e)) ↦ inr (inr (n, a, calls, ap (over fs) e))
    ])
  where
    v : Valuation
    v = record { globals = g; places = l }
step_over p fs _ t has h = absurd h

steps_over : (p : Program) (fs : List Frame) (n : ℕ) (s t : State) → HasFrame t → AfterSteps p n s (λ u. u ≡ t)
    → Runs p (over fs s) (over fs t)
steps_over p fs zero s t has e = (zero, ap (over fs) e)
steps_over p fs (suc n) s t has run =
    let (u, step, rest) = steps_pick p s (λ u. AfterSteps p n u (λ z. z ≡ t)) run in
    step_runs p (over fs s) (over fs u) (over fs t) (step_over p fs s u (comes_from_frame p n u t rest has) step)
    (steps_over p fs n u t has rest)

-- a run at whose end some frame is left is one more over callers too
pub runs_over : (p : Program) (fs : List Frame) (s t : State) → HasFrame t → Runs p s t → Runs p (over fs s) (over fs t)
runs_over p fs s t has (n, run) = steps_over p fs n s t has run

-- the step into a call
pub entering : (p : Program) (q : ℕ) (v : Valuation) (r : Code) (fs : List Frame) (s : ℕ) (e : Valuation)
    → Calls p v.globals v.places r s e →
    Step p (state v.globals (frame q v.places r ∷ fs))
    (state e.globals
    (frame s e.places (body_of (slice_get p.routines s)) ∷ caller_frame q v.places (target_of r) (after_first r) ∷ fs))
entering p q v r fs s e calls = (step_kinds p q v r fs _).1 (inr (inr (s, e, calls, refl)))

-- the step out of a call
pub returning : (p : Program) (q : ℕ) (v : Valuation) (fs : List Frame)
    → Step p (state v.globals (frame q v.places done ∷ fs)) (given_back (result_of (slice_get p.routines q) v.places) v.globals fs)
returning p q v fs = (step_kinds p q v done fs _).1 (inr (inl (refl, refl)))

-- what a caller continues with when its call has left this
pub given_caller : (q : ℕ) (v : Valuation) (x : Option Place) (t : Code) (fs : List Frame) (b : Exit) →
    given_back b.result b.globals (caller_frame q v.places x t ∷ fs)
    ≡ state (resumed_with x v b).globals (frame q (resumed_with x v b).places t ∷ fs)
given_caller q v None t fs b = refl
given_caller q v (Some x) t fs b = refl
