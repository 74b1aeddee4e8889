-- Steps and runs, as properties of where they lead.
use Rattle.std.proofs.Common.{◌≡◌, ℕ, zero, suc, [], ◌∷◌, Option, Some, None, slice_get, refl, sym, subst}
use Rattle.language.specs.Tree.{assign, assert, assume, goto, call, call_for, done, one, choose, loop}
use Rattle.language.specs.Value.{values_of}
use Rattle.language.specs.Rest.{Code, rest_from}
use Rattle.language.specs.Step.{Routine, Program, frame, waiting, State, state, fresh, frame_size, AtRoutine, AtRest, body_of}
use Rattle.language.specs.Step.{StepsTo, AfterSteps, Runs}

pub at_rest_map : (o : Option Code) (P Q : Code → Type 0) → ((c : Code) → P c → Q c) → AtRest o P → AtRest o Q
at_rest_map None P Q f h = h
at_rest_map (Some c) P Q f h = f c h

at_routine_map : (o : Option Routine) (P Q : Routine → Type 0) → ((c : Routine) → P c → Q c) → AtRoutine o P → AtRoutine o Q
at_routine_map None P Q f h = h
at_routine_map (Some c) P Q f h = f c h

-- a property of what a step leads to may be weakened
pub steps_map : (p : Program) (s : State) (P Q : State → Type 0) → ((u : State) → P u → Q u) → StepsTo p s P → StepsTo p s Q
steps_map p (state g []) P Q f h = h
steps_map p (state g (waiting c l x t ∷ fs)) P Q f h = h
steps_map p (state g (frame c l (one m (assign xs rs) t) ∷ fs)) P Q f h = (h.0, h.1, f _ h.2)
steps_map p (state g (frame c l (one m (assert r) t) ∷ fs)) P Q f h = (h.0, f _ h.1)
steps_map p (state g (frame c l (one m (assume r) t) ∷ fs)) P Q f h = (h.0, f _ h.1)
steps_map p (state g (frame c l (one m (goto x) t) ∷ fs)) P Q f h =
    at_rest_map (rest_from x (body_of (slice_get p.routines c)) done) (λ u. P (state g (frame c l u ∷ fs)))
    (λ u. Q (state g (frame c l u ∷ fs))) (λ u. f (state g (frame c l u ∷ fs))) h
steps_map p (state g (frame c l (one m (call q es) t) ∷ fs)) P Q f h =
    at_routine_map (slice_get p.routines q)
    (λ r. P (state g (frame q (fresh (frame_size r) (values_of g l es)) r.body ∷ frame c l t ∷ fs)))
    (λ r. Q (state g (frame q (fresh (frame_size r) (values_of g l es)) r.body ∷ frame c l t ∷ fs)))
    (λ r. f (state g (frame q (fresh (frame_size r) (values_of g l es)) r.body ∷ frame c l t ∷ fs))) h
steps_map p (state g (frame c l (one m (call_for x q es) t) ∷ fs)) P Q f h =
    at_routine_map (slice_get p.routines q)
    (λ r. P (state g (frame q (fresh (frame_size r) (values_of g l es)) r.body ∷ waiting c l x t ∷ fs)))
    (λ r. Q (state g (frame q (fresh (frame_size r) (values_of g l es)) r.body ∷ waiting c l x t ∷ fs)))
    (λ r. f (state g (frame q (fresh (frame_size r) (values_of g l es)) r.body ∷ waiting c l x t ∷ fs))) h
steps_map p (state g (frame c l (choose m r a b t) ∷ fs)) P Q f h = (h.0, h.1, f _ h.2)
steps_map p (state g (frame c l (loop m r a t) ∷ fs)) P Q f h = (h.0, h.1, f _ h.2)
steps_map p _ P Q f h = f _ h

pub after_map : (p : Program) (n : ℕ) (s : State) (P Q : State → Type 0) → ((u : State) → P u → Q u) → AfterSteps p n s P
    → AfterSteps p n s Q
after_map p zero s P Q f h = f s h
after_map p (suc n) s P Q f h = steps_map p s (λ t. AfterSteps p n t P) (λ t. AfterSteps p n t Q) (λ t. after_map p n t P Q f) h

at_rest_pick : (o : Option Code) (F : Code → State) (P : State → Type 0) → AtRest o (λ c. P (F c))
    → (u : State) × AtRest o (λ c. F c ≡ u) × P u
at_rest_pick None F P h = absurd h
at_rest_pick (Some c) F P h = (F c, refl, h)

at_routine_pick : (o : Option Routine) (F : Routine → State) (P : State → Type 0) → AtRoutine o (λ c. P (F c))
    → (u : State) × AtRoutine o (λ c. F c ≡ u) × P u
at_routine_pick None F P h = absurd h
at_routine_pick (Some c) F P h = (F c, refl, h)

-- a step leads to some state
pub steps_pick : (p : Program) (s : State) (P : State → Type 0) → StepsTo p s P → (u : State) × StepsTo p s (λ v. v ≡ u) × P u
steps_pick p (state g []) P h = absurd h
steps_pick p (state g (waiting c l x t ∷ fs)) P h = absurd h
steps_pick p (state g (frame c l (one m (assign xs rs) t) ∷ fs)) P h = (_, (h.0, h.1, refl), h.2)
steps_pick p (state g (frame c l (one m (assert r) t) ∷ fs)) P h = (_, (h.0, refl), h.1)
steps_pick p (state g (frame c l (one m (assume r) t) ∷ fs)) P h = (_, (h.0, refl), h.1)
steps_pick p (state g (frame c l (one m (goto x) t) ∷ fs)) P h =
    at_rest_pick (rest_from x (body_of (slice_get p.routines c)) done) (λ u. state g (frame c l u ∷ fs)) P h
steps_pick p (state g (frame c l (one m (call q es) t) ∷ fs)) P h =
    at_routine_pick (slice_get p.routines q)
    (λ r. state g (frame q (fresh (frame_size r) (values_of g l es)) r.body ∷ frame c l t ∷ fs)) P h
steps_pick p (state g (frame c l (one m (call_for x q es) t) ∷ fs)) P h =
    at_routine_pick (slice_get p.routines q)
    (λ r. state g (frame q (fresh (frame_size r) (values_of g l es)) r.body ∷ waiting c l x t ∷ fs)) P h
steps_pick p (state g (frame c l (choose m r a b t) ∷ fs)) P h = (_, (h.0, h.1, refl), h.2)
steps_pick p (state g (frame c l (loop m r a t) ∷ fs)) P h = (_, (h.0, h.1, refl), h.2)
steps_pick p _ P h = (_, refl, h)

pub after_pick : (p : Program) (n : ℕ) (s : State) (P : State → Type 0) → AfterSteps p n s P
    → (u : State) × AfterSteps p n s (λ v. v ≡ u) × P u
after_pick p zero s P h = (s, refl, h)
after_pick p (suc n) s P h =
    let (t, step, more) = steps_pick p s (λ t. AfterSteps p n t P) h in
    let (u, run, at) = after_pick p n t P more in (
      u,
      steps_map p s (λ v. v ≡ t) (λ v. AfterSteps p n v (λ x. x ≡ u))
          (λ v e. subst (λ z. AfterSteps p n z (λ x. x ≡ u)) (sym e) run) step,
      at,
    )

-- a step, and then a run
pub step_runs : (p : Program) (s t u : State) → StepsTo p s (λ v. v ≡ t) → Runs p t u → Runs p s u
step_runs p s t u step (n, run) = (
  suc n,
  steps_map p s (λ v. v ≡ t) (λ v. AfterSteps p n v (λ x. x ≡ u))
      (λ v e. subst (λ z. AfterSteps p n z (λ x. x ≡ u)) (sym e) run) step,
)

pub no_steps : (p : Program) (s : State) → Runs p s s
no_steps p s = (zero, refl)
