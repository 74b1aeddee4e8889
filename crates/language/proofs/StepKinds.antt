-- Each step is a flow of the top frame, a return or an entering.
use Rattle.std.proofs.Common.{◌≡◌, ◌↔◌, ◌⊎◌, ℕ, cond, List, [], ◌∷◌, Option, Some, None, slice_get, inl, inr}
use Rattle.std.proofs.Common.{refl, sym, subst}
use Rattle.language.specs.Tree.{skip, assign, assert, assume, goto, leave, call, leave_with, call_for, done, one, choose, Expression, loop}
use Rattle.language.specs.Value.{Place, value_of, values_of, written_globals, written_locals}
use Rattle.language.specs.Rest.{Code, join, rest_from, target_of}
use Rattle.language.specs.Step.{Routine, Program, Frame, frame, waiting, State, state, fresh, frame_size, with_result, AtRoutine, AtRest}
use Rattle.language.specs.Step.{body_of, Step}
use Rattle.language.specs.Sequential.{Valuation, Calls}
use Rattle.language.specs.Flow.{FlowsTo, ReturnsTo, after_first, caller_frame, EntersTo}
use Rattle.language.proofs.Callers.{flow_over_callers}

abbrev Kinds : Program → ℕ → Valuation → Code → List Frame → State → Type 0
Kinds p q v r fs s = FlowsTo p q v r fs s ⊎ (ReturnsTo p q v r fs s ⊎ EntersTo p q v r fs s)

-- the rest that has the property
pub rest_found : (o : Option Code) (P : Code → Type 0) → AtRest o P → (rest : Code) × (o ≡ Some rest) × P rest
rest_found None P h = absurd h
rest_found (Some rest) P h = (rest, refl, h)

-- the procedure that has the property
pub routine_found : (o : Option Routine) (P : Routine → Type 0) → AtRoutine o P → (routine : Routine) × (o ≡ Some routine) × P routine
routine_found None P h = absurd h
routine_found (Some routine) P h = (routine, refl, h)

-- A new frame of a procedure over a caller's: what its values are entered with, and its body by its number.
module _ (p : Program) (v : Valuation) (n : ℕ) (es : List (Expression Place)) (caller : Frame) (fs : List Frame) (s : State) where
  abbrev with_places : Routine → Valuation
  with_places r = record { globals = v.globals; places = fresh (frame_size r) (values_of v.globals v.places es) }

  abbrev StartsAt : Valuation → Code → State
  StartsAt a body = state a.globals (frame n a.places body ∷ caller ∷ fs)

  started : (o : Option Routine) → AtRoutine o (λ r. StartsAt (with_places r) r.body ≡ s) →
      (a : Valuation) × AtRoutine o (λ r. a ≡ with_places r) × (s ≡ StartsAt a (body_of o))
  started None h = absurd h
  started (Some r) h = (with_places r, refl, sym h)

  starting : (o : Option Routine) (a : Valuation) → AtRoutine o (λ r. a ≡ with_places r) → s ≡ StartsAt a (body_of o)
      → AtRoutine o (λ r. StartsAt (with_places r) r.body ≡ s)
  starting None a h e = h
  starting (Some r) a h e = sym (subst (λ z. s ≡ StartsAt z r.body) h e)

kind_of_step : (p : Program) (q : ℕ) (v : Valuation) (r : Code) (fs : List Frame) (s : State) →
    Step p (state v.globals (frame q v.places r ∷ fs)) s → Kinds p q v r fs s
kind_of_step p q v done fs s h = inr (inl (refl, sym h))
kind_of_step p q v (one m skip t) fs s h = inl (v, t, refl, sym h)
kind_of_step p q v (one m (assign xs rs) t) fs s (vs, values, h) =
    inl (record { globals = written_globals xs vs v.globals; places = written_locals xs vs v.places }, t, (vs, values, refl), sym h)
kind_of_step p q v (one m (assert c) t) fs s (is, h) = inl (v, t, (is, refl), sym h)
kind_of_step p q v (one m (assume c) t) fs s (is, h) = inl (v, t, (is, refl), sym h)
kind_of_step p q v (one m (goto x) t) fs s h =
    let (rest, e, same) =
    rest_found (rest_from x (body_of (slice_get p.routines q)) done) (λ z. state v.globals (frame q v.places z ∷ fs) ≡ s) h in
    inl (
      v,
      rest,
      subst (λ o. AtRest o (λ z. state v.globals (frame q v.places z ∷ []) ≡ state v.globals (frame q v.places rest ∷ []))) (sym e) refl,
      sym same,
    )
kind_of_step p q v (one m leave t) fs s h = inl (v, done, refl, sym h)
kind_of_step p q v (one m (call n es) t) fs s h =
    let (a, at, same) = started p v n es (frame q v.places t) fs s (slice_get p.routines n) h in
    inr (inr (n, a, (refl, at), same))
kind_of_step p q v (one m (leave_with e) t) fs s h =
    inl (
      record {
        globals = v.globals;
        places = with_result (slice_get p.routines q) v.places (value_of v.globals v.places e);
      },
      done,
      refl,
      sym h,
    )
kind_of_step p q v (one m (call_for x n es) t) fs s h =
    let (a, at, same) = started p v n es (waiting q v.places x t) fs s (slice_get p.routines n) h in
    inr (inr (n, a, (refl, at), same))
kind_of_step p q v (choose m c a b t) fs s (w, is, h) = inl (v, cond w (join a t) (join b t), (w, is, refl), sym h)
kind_of_step p q v (loop m c a t) fs s (w, is, h) = inl (v, cond w (join a (loop m c a t)) t, (w, is, refl), sym h)

begun : (p : Program) (v : Valuation) (es : List (Expression Place)) (caller : Frame) (fs : List Frame) (s : State) (k n : ℕ)
    (a : Valuation) → k ≡ n →
    AtRoutine (slice_get p.routines n) (λ r. a ≡ with_places p v n es caller fs s r)
    → s ≡ StartsAt p v n es caller fs s a (body_of (slice_get p.routines n)) →
    AtRoutine (slice_get p.routines k) (λ r. StartsAt p v k es caller fs s (with_places p v k es caller fs s r) r.body ≡ s)
begun p v es caller fs s k n a same h e =
    subst (λ z. AtRoutine (slice_get p.routines z) (λ r. StartsAt p v z es caller fs s (with_places p v z es caller fs s r) r.body ≡ s))
    (sym same) (starting p v n es caller fs s (slice_get p.routines n) a h e)

-- the step into a call that begins a rest
entering_steps : (p : Program) (q : ℕ) (v : Valuation) (r : Code) (fs : List Frame) (s : State) (n : ℕ) (a : Valuation)
    → Calls p v.globals v.places r n a →
    s ≡ state a.globals
    (frame n a.places (body_of (slice_get p.routines n)) ∷ caller_frame q v.places (target_of r) (after_first r) ∷ fs) →
    Step p (state v.globals (frame q v.places r ∷ fs)) s
entering_steps p q v (one m (call k es) t) fs s n a (same, h) e = begun p v es (frame q v.places t) fs s k n a same h e
entering_steps p q v (one m (call_for x k es) t) fs s n a (same, h) e = begun p v es (waiting q v.places x t) fs s k n a same h e
entering_steps p q v _ fs s n a h e = absurd h

step_of_kind : (p : Program) (q : ℕ) (v : Valuation) (r : Code) (fs : List Frame) (s : State) → Kinds p q v r fs s →
    Step p (state v.globals (frame q v.places r ∷ fs)) s
step_of_kind p q v r fs s (inl (v', r', flow, same)) =
    subst (Step p (state v.globals (frame q v.places r ∷ fs))) (sym same) ((flow_over_callers p q v v' r r' fs).0 flow)
step_of_kind p q v r fs s (inr (inl (e, same))) =
    subst (λ z. Step p (state v.globals (frame q v.places z ∷ fs)) s) (sym e) (sym same)
step_of_kind p q v r fs s (inr (inr (n, a, calls, same))) = entering_steps p q v r fs s n a calls same

pub step_kinds : (p : Program) (q : ℕ) (v : Valuation) (r : Code) (callers : List Frame) (s : State) →
    Step p (state v.globals (frame q v.places r ∷ callers)) s ↔
    (FlowsTo p q v r callers s ⊎ (ReturnsTo p q v r callers s ⊎ EntersTo p q v r callers s))
step_kinds p q v r callers s = (kind_of_step p q v r callers s, step_of_kind p q v r callers s)
