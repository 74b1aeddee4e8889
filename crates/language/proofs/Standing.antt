-- Each frame is at a rest of its procedure's body, and steps keep that.
use Rattle.std.proofs.Common.{◌≡◌, ℕ, zero, suc, true, false, List, [], ◌∷◌, Option, Some, None, slice_get, inl, inr, refl, sym, ap, subst}
use Rattle.std.proofs.Common.{Bool}
use Rattle.language.specs.Tree.{skip, assign, assert, assume, goto, leave, call, leave_with, call_for, done, one, choose, loop}
use Rattle.language.specs.Value.{Place, values_of, written_globals, written_locals}
use Rattle.language.specs.Rest.{Code, Label, join, rest_from}
use Rattle.language.specs.Step.{Routine, Program, Frame, frame, waiting, State, state, fresh, zeros, frame_size, result_of, given_back}
use Rattle.language.specs.Step.{AtRoutine, AtRest, body_of, StepsTo, AfterSteps}
use Rattle.language.specs.Rounds.{starting_stack}
use Rattle.language.specs.Sequential.{Valuation, Reaches}
use Rattle.language.specs.Flow.{IsRestOf, Flow}
use Rattle.language.specs.Lists.{Member}
use Rattle.language.proofs.Rests.{join_done}
use Rattle.language.proofs.RestMembers.{in_whole, member_from, rest_follows}

-- what is left in a frame of procedure q can be left there
abbrev pub Stands : Program → ℕ → Code → Type 0
Stands p q r = IsRestOf (body_of (slice_get p.routines q)) r

abbrev AllStand : Program → List Frame → Type 0
AllStand p [] = Unit {0}
AllStand p (frame q l r ∷ fs) = Stands p q r × AllStand p fs
AllStand p (waiting q l x r ∷ fs) = Stands p q r × AllStand p fs

abbrev Standing : Program → State → Type 0
Standing p (state g fs) = AllStand p fs

-- a whole body can be left to run
pub whole_stands : (b : Code) → IsRestOf b b
whole_stands b = subst (IsRestOf b) (join_done b) (in_whole b done)

-- a procedure's number determines its body
entered : (p : Program) (q : ℕ) (o : Option Routine) → slice_get p.routines q ≡ o → (P : State → Type 0) (F : Routine → State) →
    ((routine : Routine) → Stands p q routine.body → Standing p (F routine)) → AtRoutine o (λ routine. P (F routine))
    → (u : State) × Standing p u × P u
entered p q None e P F stand h = absurd h
entered p q (Some routine) e P F stand h =
    (F routine, stand routine (subst (λ b. IsRestOf b routine.body) (sym (ap body_of e)) (whole_stands routine.body)), h)

jumped : (x : Label) (p : Program) (c : ℕ) (o : Option Code) → rest_from x (body_of (slice_get p.routines c)) done ≡ o
    → (P : State → Type 0) (F : Code → State) →
    ((rest : Code) → Stands p c rest → Standing p (F rest)) → AtRest o (λ rest. P (F rest)) → (u : State) × Standing p u × P u
jumped x p c None e P F stand h = absurd h
jumped x p c (Some rest) e P F stand h =
    (F rest, stand rest (inr (member_from x (body_of (slice_get p.routines c)) done rest e)), h)

given_stand : (p : Program) (v : Bool) (g : List Bool) (fs : List Frame) → AllStand p fs → Standing p (given_back v g fs)
given_stand p v g [] at = at
given_stand p v g (frame c l t ∷ fs) at = at
given_stand p v g (waiting c l x t ∷ fs) at = at

-- a step from a state whose frames all stand leads to such a state
steps_stand : (p : Program) (s : State) (P : State → Type 0) → Standing p s → StepsTo p s P → (u : State) × Standing p u × P u
steps_stand p (state g (frame c l done ∷ fs)) P at h = (_, given_stand p (result_of (slice_get p.routines c) l) g fs at.1, h)
steps_stand p (state g (frame c l (one m skip t) ∷ fs)) P at h =
    (state g (frame c l t ∷ fs), (rest_follows (body_of (slice_get p.routines c)) (one m skip t) t at.0 refl, at.1), h)
steps_stand p (state g (frame c l (one m (assign xs rs) t) ∷ fs)) P at (vs, values, h) = (
  state (written_globals xs vs g) (frame c (written_locals xs vs l) t ∷ fs),
  (rest_follows (body_of (slice_get p.routines c)) (one m (assign xs rs) t) t at.0 refl, at.1),
  h,
)
steps_stand p (state g (frame c l (one m (assert r) t) ∷ fs)) P at h =
    (state g (frame c l t ∷ fs), (rest_follows (body_of (slice_get p.routines c)) (one m (assert r) t) t at.0 refl, at.1), h.1)
steps_stand p (state g (frame c l (one m (assume r) t) ∷ fs)) P at h =
    (state g (frame c l t ∷ fs), (rest_follows (body_of (slice_get p.routines c)) (one m (assume r) t) t at.0 refl, at.1), h.1)
steps_stand p (state g (frame c l (one m (goto x) t) ∷ fs)) P at h =
    jumped x p c (rest_from x (body_of (slice_get p.routines c)) done) refl P (λ rest. state g (frame c l rest ∷ fs))
    (λ rest stands. (stands, at.1)) h
steps_stand p (state g (frame c l (one m leave t) ∷ fs)) P at h = (state g (frame c l done ∷ fs), (inl refl, at.1), h)
steps_stand p (state g (frame c l (one m (call q es) t) ∷ fs)) P at h =
    entered p q (slice_get p.routines q) refl P
    (λ routine. state g (frame q (fresh (frame_size routine) (values_of g l es)) routine.body ∷ frame c l t ∷ fs))
    (λ routine stands. (stands, (rest_follows (body_of (slice_get p.routines c)) (one m (call q es) t) t at.0 refl, at.1))) h
steps_stand p (state g (frame c l (one m (leave_with e) t) ∷ fs)) P at h = (_, (inl refl, at.1), h)
steps_stand p (state g (frame c l (one m (call_for x q es) t) ∷ fs)) P at h =
    entered p q (slice_get p.routines q) refl P
    (λ routine. state g (frame q (fresh (frame_size routine) (values_of g l es)) routine.body ∷ waiting c l x t ∷ fs))
    (λ routine stands. (stands, (rest_follows (body_of (slice_get p.routines c)) (one m (call_for x q es) t) t at.0 refl, at.1))) h
steps_stand p (state g (frame c l (choose m r a b t) ∷ fs)) P at (true, is, h) = (
  state g (frame c l (join a t) ∷ fs),
  (rest_follows (body_of (slice_get p.routines c)) (choose m r a b t) (join a t) at.0 (inl refl), at.1),
  h,
)
steps_stand p (state g (frame c l (choose m r a b t) ∷ fs)) P at (false, is, h) = (
  state g (frame c l (join b t) ∷ fs),
  (rest_follows (body_of (slice_get p.routines c)) (choose m r a b t) (join b t) at.0 (inr refl), at.1),
  h,
)
steps_stand p (state g (frame c l (loop m r a t) ∷ fs)) P at (true, is, h) = (
  state g (frame c l (join a (loop m r a t)) ∷ fs),
  (rest_follows (body_of (slice_get p.routines c)) (loop m r a t) (join a (loop m r a t)) at.0 (inl refl), at.1),
  h,
)
steps_stand p (state g (frame c l (loop m r a t) ∷ fs)) P at (false, is, h) =
    (state g (frame c l t ∷ fs), (rest_follows (body_of (slice_get p.routines c)) (loop m r a t) t at.0 (inr refl), at.1), h)
steps_stand p _ P at h = absurd h

-- so does each run
run_stands : (p : Program) (n : ℕ) (s t : State) → Standing p s → AfterSteps p n s (λ u. u ≡ t) → Standing p t
run_stands p zero s t at h = subst (Standing p) h at
run_stands p (suc n) s t at h =
    let (u, there, more) = steps_stand p s (λ v. AfterSteps p n v (λ z. z ≡ t)) at h in
    run_stands p n u t there more

-- what a flow leads to can be left there too
pub flow_stands : (p : Program) (q : ℕ) (v v' : Valuation) (r r' : Code) → Stands p q r → Flow p q v r v' r' → Stands p q r'
flow_stands p q v v' r r' at flow =
    let (u, there, is) =
    steps_stand p (state v.globals (frame q v.places r ∷ [])) (λ z. z ≡ state v'.globals (frame q v'.places r' ∷ [])) (at, tt) flow in
    (subst (Standing p) is there).0

pub flow_stays : (p : Program) (q : ℕ) (routine : Routine) (v v' : Valuation) (r r' : Code) → slice_get p.routines q ≡ Some routine →
    IsRestOf routine.body r → Flow p q v r v' r' → IsRestOf routine.body r'
flow_stays p q routine v v' r r' e at flow =
    let same : body_of (slice_get p.routines q) ≡ routine.body = ap body_of e in
    subst (λ b. IsRestOf b r') same (flow_stands p q v v' r r' (subst (λ b. IsRestOf b r) (sym same) at) flow)

-- the stack before the first step: one frame, whose whole body is left
start_stands : (p : Program) (n : ℕ) → AllStand p (starting_stack p.routines n)
start_stands p n = of_routine (slice_get p.routines n) refl
  where
    of_routine : (o : Option Routine) → slice_get p.routines n ≡ o
        → AllStand p
        (elim o as (λ x. List Frame) [ None ↦ [] | Some routine ↦ frame n (zeros (frame_size routine)) routine.body ∷ [] ])
    of_routine None e = tt
    of_routine (Some routine) e = (subst (λ b. IsRestOf b routine.body) (sym (ap body_of e)) (whole_stands routine.body), tt)

-- a frame of a stack whose frames all stand
member_stands : (p : Program) (fs : List Frame) (f : Frame) → AllStand p fs → Member f fs → AllStand p (f ∷ [])
member_stands p [] f at is = absurd is
member_stands p (frame c k t ∷ fs) f at (inl e) = subst (λ z. AllStand p (z ∷ [])) (sym e) (at.0, tt)
member_stands p (frame c k t ∷ fs) f at (inr is) = member_stands p fs f at.1 is
member_stands p (waiting c k x t ∷ fs) f at (inl e) = subst (λ z. AllStand p (z ∷ [])) (sym e) (at.0, tt)
member_stands p (waiting c k x t ∷ fs) f at (inr is) = member_stands p fs f at.1 is

reached_stand : (p : Program) (g : List Bool) (stack : List Frame) → Reaches p (state g stack) → AllStand p stack
reached_stand p g stack (n, run) =
    run_stands p n (state (zeros p.globals) (starting_stack p.routines 0)) (state g stack) (start_stands p 0) run

pub frame_stands : (p : Program) (g : List Bool) (stack : List Frame) (q : ℕ) (l : List Bool) (r : Code) → Reaches p (state g stack)
    → Member (frame q l r) stack →
    IsRestOf (body_of (slice_get p.routines q)) r
frame_stands p g stack q l r reaches f = (member_stands p stack (frame q l r) (reached_stand p g stack reaches) f).0

pub waiting_stands : (p : Program) (g : List Bool) (stack : List Frame) (q : ℕ) (l : List Bool) (x : Place) (r : Code)
    → Reaches p (state g stack) → Member (waiting q l x r) stack →
    IsRestOf (body_of (slice_get p.routines q)) r
waiting_stands p g stack q l x r reaches f = (member_stands p stack (waiting q l x r) (reached_stand p g stack reaches) f).0
