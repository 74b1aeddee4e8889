-- A flow is the same whatever callers wait below it.
use Rattle.std.proofs.Common.{◌≡◌, ◌↔◌, ℕ, suc, Bool, List, [], ◌∷◌, length, Option, Some, None, slice_get, refl, sym}
use Rattle.std.proofs.Common.{◌∙◌, ap, arith}
use Rattle.std.proofs.lemmas.Option.{none-some}
use Rattle.language.specs.Tree.{Expression, assign, assert, assume, goto, call, call_for, done, one, choose, loop}
use Rattle.language.specs.Value.{Place, values_of}
use Rattle.language.specs.Rest.{Code, rest_from, called_by}
use Rattle.language.specs.Step.{Routine, Program, Frame, frame, waiting, State, state, fresh, frame_size, result_of, given_back}
use Rattle.language.specs.Step.{AtRoutine, body_of, Step}
use Rattle.language.specs.Sequential.{Valuation}
use Rattle.language.specs.Flow.{Flow}
use Rattle.language.proofs.Runs.{at_rest_map}

-- how many frames there are
abbrev height : State → ℕ
height (state g fs) = length fs

-- other callers below the top frame
abbrev over : List Frame → State → State
over gs (state g []) = state g []
over gs (state g (f ∷ fs)) = state g (f ∷ gs)

-- a frame that is removed leaves the others
height_given : (v : Bool) (g : List Bool) (fs : List Frame) → height (given_back v g fs) ≡ length fs
height_given v g [] = refl
height_given v g (frame c l t ∷ fs) = refl
height_given v g (waiting c l x t ∷ fs) = refl

no_return : (v : Bool) (g g' : List Bool) (f : Frame) (fs : List Frame) → given_back v g fs ≡ state g' (f ∷ fs) → ⊥
no_return v g g' f fs e = let same : length fs ≡ suc (length fs) = sym (height_given v g fs) ∙ ap height e in omega arith

no_entering : (o : Option Routine) (f : Routine → Frame) (g g' : List Bool) (k h : Frame) (fs : List Frame) →
    AtRoutine o (λ routine. state g (f routine ∷ k ∷ fs) ≡ state g' (h ∷ fs)) → ⊥
no_entering None f g g' k h fs e = e
no_entering (Some routine) f g g' k h fs e = let same : suc (suc (length fs)) ≡ suc (length fs) = ap height e in omega arith

-- a step that leaves the callers where they are can be taken over others
other_callers : (p : Program) (q : ℕ) (g l : List Bool) (r : Code) (g' l' : List Bool) (r' : Code) (fs gs : List Frame) →
    Step p (state g (frame q l r ∷ fs)) (state g' (frame q l' r' ∷ fs))
    → Step p (state g (frame q l r ∷ gs)) (state g' (frame q l' r' ∷ gs))
other_callers p q g l done g' l' r' fs gs h = absurd (no_return (result_of (slice_get p.routines q) l) g g' (frame q l' r') fs h)
other_callers p q g l (one m (assign xs rs) t) g' l' r' fs gs (vs, values, h) = (vs, values, ap (over gs) h)
other_callers p q g l (one m (assert c) t) g' l' r' fs gs (is, h) = (is, ap (over gs) h)
other_callers p q g l (one m (assume c) t) g' l' r' fs gs (is, h) = (is, ap (over gs) h)
other_callers p q g l (one m (goto x) t) g' l' r' fs gs h =
    at_rest_map (rest_from x (body_of (slice_get p.routines q)) done)
    (λ rest. state g (frame q l rest ∷ fs) ≡ state g' (frame q l' r' ∷ fs))
    (λ rest. state g (frame q l rest ∷ gs) ≡ state g' (frame q l' r' ∷ gs)) (λ rest e. ap (over gs) e) h
other_callers p q g l (one m (call n es) t) g' l' r' fs gs h =
    absurd
    (no_entering (slice_get p.routines n) (λ routine. frame n (fresh (frame_size routine) (values_of g l es)) routine.body) g g'
    (frame q l t) (frame q l' r') fs h)
other_callers p q g l (one m (call_for x n es) t) g' l' r' fs gs h =
    absurd
    (no_entering (slice_get p.routines n) (λ routine. frame n (fresh (frame_size routine) (values_of g l es)) routine.body) g g'
    (waiting q l x t) (frame q l' r') fs h)
other_callers p q g l (choose m c a b t) g' l' r' fs gs (v, is, h) = (v, is, ap (over gs) h)
other_callers p q g l (loop m c a t) g' l' r' fs gs (v, is, h) = (v, is, ap (over gs) h)
other_callers p q g l _ g' l' r' fs gs h = ap (over gs) h

pub flow_over_callers : (p : Program) (q : ℕ) (v v' : Valuation) (r r' : Code) (fs : List Frame) →
    Flow p q v r v' r' ↔ Step p (state v.globals (frame q v.places r ∷ fs)) (state v'.globals (frame q v'.places r' ∷ fs))
flow_over_callers p q v v' r r' fs = (
  other_callers p q v.globals v.places r v'.globals v'.places r' [] fs,
  other_callers p q v.globals v.places r v'.globals v'.places r' fs [],
)

pub no_flow_from_call : (p : Program) (q n : ℕ) (v v' : Valuation) (es : List (Expression Place)) (r r' : Code)
    → called_by r ≡ Some (n, es) →
    Flow p q v r v' r' → ⊥
no_flow_from_call p q n v v' es (one m (call k ks) t) r' e h =
    no_entering (slice_get p.routines k) (λ routine. frame k (fresh (frame_size routine) (values_of v.globals v.places ks)) routine.body)
    v.globals v'.globals (frame q v.places t) (frame q v'.places r') [] h
no_flow_from_call p q n v v' es (one m (call_for x k ks) t) r' e h =
    no_entering (slice_get p.routines k) (λ routine. frame k (fresh (frame_size routine) (values_of v.globals v.places ks)) routine.body)
    v.globals v'.globals (waiting q v.places x t) (frame q v'.places r') [] h
no_flow_from_call p q n v v' es _ r' e h = absurd (none-some (n, es) e)

pub no_flow_from_exit : (p : Program) (q : ℕ) (v v' : Valuation) (r' : Code) → Flow p q v done v' r' → ⊥
no_flow_from_exit p q v v' r' h =
    no_return (result_of (slice_get p.routines q) v.places) v.globals v'.globals (frame q v'.places r') [] h
