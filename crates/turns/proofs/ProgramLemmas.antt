-- The steps of a program's thread are those of its pushdown system.
use Rattle.std.proofs.Common.{◌≡◌, ℕ, zero, suc, Bool, List, [], ◌∷◌, Option, None, Some, inl, inr, refl, sym, ap, subst, slice_get}
use Rattle.language.specs.Tree.{one, call, call_for, done}
use Rattle.language.specs.Rest.{Code, target_of}
use Rattle.language.specs.Step as language
use Rattle.language.specs.Step.{Program, Routine, Frame, frame, waiting, State, state, AtRoutine, body_of, result_of, given_back}
use Rattle.language.specs.Step.{AfterSteps}
use Rattle.language.specs.Sequential as calls
use Rattle.language.specs.Sequential.{Valuation}
use Rattle.language.specs.Flow.{after_first, caller_frame}
use Rattle.language.proofs.StepKinds.{step_kinds}
use Rattle.language.proofs.Runs.{steps_pick, no_steps}
use Rattle.language.proofs.RunsOver.{over, runs_step, entering, returning}
use Rattle.turns.specs.Machines.{Step, moves, returns, ends, Runs, no_step, one_more}
use Rattle.turns.specs.Machines as machine
use Rattle.turns.specs.Programs.{valued, machine_of, Moves, CallsFrom, ReturnsTo, IsFinished}
use Rattle.turns.proofs.RunLemmas.{runs_front}

-- a call leaves the globals as they are
globals_of_routine : (o : Option Routine) (g : List Bool) (places : Routine → List Bool) (a : Valuation)
    → AtRoutine o (λ r. a ≡ record { globals = g; places = places r }) → a.globals ≡ g
globals_of_routine None g places a at = absurd at
globals_of_routine (Some r) g places a at = ap (λ (z : Valuation). z.globals) at

pub called_globals : (p : Program) (g l : List Bool) (r : Code) (n : ℕ) (a : Valuation) → calls.Calls p g l r n a → a.globals ≡ g
called_globals p g l (one m (call k es) t) n a (same, at) = globals_of_routine (slice_get p.routines n) g _ a at
called_globals p g l (one m (call_for x k es) t) n a (same, at) = globals_of_routine (slice_get p.routines n) g _ a at
called_globals p g l _ n a h = absurd h

module _ (p : Program) where
  -- the stack after a call
  abbrev opened : ℕ → Valuation → ℕ → List Bool → Code → List Frame → List Frame
  opened n a c l r fs = frame n a.places (body_of (slice_get p.routines n)) ∷ caller_frame c l (target_of r) (after_first r) ∷ fs

  -- a step of the system leads to this state
  abbrev LeadsTo : List Bool → List Frame → State → Type 0
  LeadsTo g s (state h t) = Step (machine_of p) g s h t

  given_back_step : (c : ℕ) (g l : List Bool) (r : Code) (fs : List Frame) → r ≡ done
      → LeadsTo g (frame c l r ∷ fs) (language.given_back (result_of (slice_get p.routines c) l) g fs)
  given_back_step c g l r [] finished = ends g (frame c l r) finished
  given_back_step c g l r (frame d k t ∷ fs) finished = returns g (frame c l r) (frame d k t) g (frame d k t) fs (finished, refl)
  given_back_step c g l r (waiting d k x t ∷ fs) finished = returns g (frame c l r) (waiting d k x t) _ _ fs (finished, refl)

  step_there : (g : List Bool) (s : List Frame) (t : State) → language.Step p (state g s) t → LeadsTo g s t
  step_there g [] t step = absurd step
  step_there g (waiting c l x r ∷ fs) t step = absurd step
  step_there g (frame c l r ∷ fs) t step =
      elim ((step_kinds p c (valued g l) r fs t).0 step) [
        | inl (v, r', flow, e) ↦
            subst (LeadsTo g (frame c l r ∷ fs)) (sym e)
            (moves g (frame c l r) v.globals (frame c v.places r') fs (v.places, r', flow, refl))
        | inr (inl (finished, e)) ↦ subst (LeadsTo g (frame c l r ∷ fs)) (sym e) (given_back_step c g l r fs finished)
        | inr (inr (n, a, asks, e)) ↦
            subst (LeadsTo g (frame c l r ∷ fs)) (sym e)
            (subst (λ h. Step (machine_of p) g (frame c l r ∷ fs) h (opened n a c l r fs)) (sym (called_globals p g l r n a asks))
            (machine.calls g (frame c l r) _ _ fs (n, a, asks, refl, refl)))
      ]

  moves_back : (g h : List Bool) (f f' : Frame) (fs : List Frame) → Moves p g f h f'
      → language.Step p (state g (f ∷ fs)) (state h (f' ∷ fs))
  moves_back g h (waiting c l x r) f' fs is = absurd is
  moves_back g h (frame c l r) f' fs (l', r', flow, e) =
      subst (λ z. language.Step p (state g (frame c l r ∷ fs)) (state h (z ∷ fs))) (sym e)
      ((step_kinds p c (valued g l) r fs _).1 (inl (valued h l', r', flow, refl)))

  calls_back : (g : List Bool) (f e w : Frame) (fs : List Frame) → CallsFrom p g f e w
      → language.Step p (state g (f ∷ fs)) (state g (e ∷ w ∷ fs))
  calls_back g (waiting c l x r) e w fs is = absurd is
  calls_back g (frame c l r) e w fs (n, a, asks, same_e, same_w) =
      let step : language.Step p (state g (frame c l r ∷ fs)) (state a.globals (opened n a c l r fs)) =
      entering p c (valued g l) r fs n a asks in
      subst (λ z. language.Step p (state g (frame c l r ∷ fs)) (state g (e ∷ z ∷ fs))) (sym same_w)
      (subst (λ z. language.Step p (state g (frame c l r ∷ fs)) (state g (z ∷ caller_frame c l (target_of r) (after_first r) ∷ fs)))
      (sym same_e)
      (subst (λ z. language.Step p (state g (frame c l r ∷ fs)) (state z (opened n a c l r fs))) (called_globals p g l r n a asks) step))

  -- what is given back to a frame is the same over more frames
  given_over : (v : Bool) (g h : List Bool) (w f : Frame) (fs : List Frame) → given_back v g (w ∷ []) ≡ state h (f ∷ [])
      → given_back v g (w ∷ fs) ≡ state h (f ∷ fs)
  given_over v g h (frame c l r) f fs e = ap (over fs) e
  given_over v g h (waiting c l x r) f fs e = ap (over fs) e

  returns_back : (g h : List Bool) (f w f' : Frame) (fs : List Frame) → ReturnsTo p g f w h f'
      → language.Step p (state g (f ∷ w ∷ fs)) (state h (f' ∷ fs))
  returns_back g h (waiting c l x r) w f' fs is = absurd is
  returns_back g h (frame c l r) w f' fs (finished, e) =
      subst (λ z. language.Step p (state g (frame c l z ∷ w ∷ fs)) (state h (f' ∷ fs))) (sym finished)
      (subst (λ s. language.Step p (state g (frame c l done ∷ w ∷ fs)) s) (given_over _ g h w f' fs e)
      (returning p c (valued g l) (w ∷ fs)))

  ends_back : (g : List Bool) (f : Frame) → IsFinished f → language.Step p (state g (f ∷ [])) (state g [])
  ends_back g (waiting c l x r) is = absurd is
  ends_back g (frame c l r) finished =
      subst (λ z. language.Step p (state g (frame c l z ∷ [])) (state g [])) (sym finished) (returning p c (valued g l) [])

  step_back : (g h : List Bool) (s t : List Frame) → Step (machine_of p) g s h t → language.Step p (state g s) (state h t)
  step_back _ _ _ _ (moves g f h f' fs is) = moves_back g h f f' fs is
  step_back _ _ _ _ (machine.calls g f e w fs is) = calls_back g f e w fs is
  step_back _ _ _ _ (returns g f w h f' fs is) = returns_back g h f w f' fs is
  step_back _ _ _ _ (ends g f is) = ends_back g f is

  -- runs of the system are runs of the program
  pub runs_back : (g h : List Bool) (s t : List Frame) → Runs (machine_of p) g s h t → language.Runs p (state g s) (state h t)
  runs_back _ _ _ _ (no_step g s) = no_steps p (state g s)
  runs_back _ _ _ _ (one_more g s h t i u run step) =
      runs_step p (state g s) (state h t) (state i u) (runs_back g h s t run) (step_back h i t u step)

  abbrev RunsBetween : State → State → Type 0
  RunsBetween (state g s) (state h t) = Runs (machine_of p) g s h t

  front : (s t u : State) → language.Step p s t → RunsBetween t u → RunsBetween s u
  front (state g s) (state h t) (state i u) step run = runs_front (machine_of p) g h i s t u (step_there g s (state h t) step) run

  no_run : (s : State) → RunsBetween s s
  no_run (state g s) = no_step g s

  steps_there : (n : ℕ) (s t : State) → AfterSteps p n s (λ u. u ≡ t) → RunsBetween s t
  steps_there zero s t e = subst (RunsBetween s) e (no_run s)
  steps_there (suc n) s t run =
      let (u, step, rest) = steps_pick p s (λ z. AfterSteps p n z (λ y. y ≡ t)) run in
      front s u t step (steps_there n u t rest)

  -- runs of the program are runs of the system
  pub runs_there : (g h : List Bool) (s t : List Frame) → language.Runs p (state g s) (state h t) → Runs (machine_of p) g s h t
  runs_there g h s t (n, run) = steps_there n (state g s) (state h t) run
