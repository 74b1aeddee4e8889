-- The widths of valuations: as many values as globals and as places.
use Rattle.std.proofs.Common.{◌≡◌, ◌⊎◌, ℕ, zero, suc, ◌≤◌, List, [], ◌∷◌, Bool, Option, Some, None, inl, inr}
use Rattle.std.proofs.Common.{refl, sym, ◌∙◌, ap, subst, arith, length, slice_get}
use Rattle.language.specs.Tree.{skip, assign, assert, assume, goto, leave, call, leave_with, call_for, done, one, choose, loop}
use Rattle.language.specs.Value.{Place, value_of, values_of}
use Rattle.language.specs.Rest.{Code, rest_from, target_of}
use Rattle.language.specs.Step.{Program, Frame, frame, waiting, State, state, zeros, fresh, frame_size, result_of, given_back}
use Rattle.language.specs.Step.{AtRoutine, body_of, Step, AfterSteps}
use Rattle.language.specs.Sequential.{Valuation, Calls, Asks, IsZero, Entered, Exit, resumed_with, Message, entry, summary, IsDue}
use Rattle.language.specs.Flow.{Flow, FlowsTo, ReturnsTo, EntersTo}
use Rattle.language.specs.Messages.{Reached, starts, flows, returns, IsValuationOf, IsMessageTo, ArgumentsFit}
use Rattle.language.proofs.Runs.{steps_pick}
use Rattle.language.proofs.Lengths.{length_zeros, length_fresh, length_values, length_globals, length_locals, length_result, places_within}
use Rattle.language.proofs.Callers.{no_flow_from_call, no_flow_from_exit}
use Rattle.language.proofs.StepKinds.{rest_found, routine_found, step_kinds}
use Rattle.language.proofs.Standing.{frame_stands}
use Rattle.language.proofs.Entering.{call_shape, due_entered}
use Rattle.language.proofs.Sound.{alone, pair_inside}

-- how many globals there are, and how many places the top frame has
abbrev breadth : State → ℕ
breadth (state g fs) = length g

abbrev top_breadth : State → ℕ
top_breadth (state g []) = 0
top_breadth (state g (frame q l r ∷ fs)) = length l
top_breadth (state g (waiting q l x r ∷ fs)) = length l

-- as many globals, and as many places in the top frame
abbrev AsWide : State → State → Type 0
AsWide s t = (breadth s ≡ breadth t) × (top_breadth s ≡ top_breadth t)

same_wide : (s t : State) → s ≡ t → AsWide s t
same_wide s t e = (ap breadth e, ap top_breadth e)

-- the two valuations have as many values
abbrev pub SameWidths : Valuation → Valuation → Type 0
SameWidths v w = (length v.globals ≡ length w.globals) × (length v.places ≡ length w.places)

-- a flow changes no widths
pub flow_widths : (p : Program) (q : ℕ) (v v' : Valuation) (r r' : Code) → Flow p q v r v' r' → SameWidths v v'
flow_widths p q v v' done r' h = absurd (no_flow_from_exit p q v v' r' h)
flow_widths p q v v' (one m skip t) r' h = same_wide _ _ h
flow_widths p q v v' (one m (assign xs rs) t) r' (vs, values, h) =
    let (globals, places) = same_wide _ _ h in
    (sym (length_globals xs vs v.globals) ∙ globals, sym (length_locals xs vs v.places) ∙ places)
flow_widths p q v v' (one m (assert c) t) r' (is, h) = same_wide _ _ h
flow_widths p q v v' (one m (assume c) t) r' (is, h) = same_wide _ _ h
flow_widths p q v v' (one m (goto x) t) r' h =
    let (rest, e, same) =
    rest_found (rest_from x (body_of (slice_get p.routines q)) done)
    (λ z. state v.globals (frame q v.places z ∷ []) ≡ state v'.globals (frame q v'.places r' ∷ [])) h in
    same_wide _ _ same
flow_widths p q v v' (one m leave t) r' h = same_wide _ _ h
flow_widths p q v v' (one m (call n es) t) r' h = absurd (no_flow_from_call p q n v v' es (one m (call n es) t) r' refl h)
flow_widths p q v v' (one m (leave_with e) t) r' h =
    let (globals, places) = same_wide _ _ h in
    (globals, sym (length_result (slice_get p.routines q) v.places (value_of v.globals v.places e)) ∙ places)
flow_widths p q v v' (one m (call_for x n es) t) r' h =
    absurd (no_flow_from_call p q n v v' es (one m (call_for x n es) t) r' refl h)
flow_widths p q v v' (choose m c a b t) r' (w, is, h) = same_wide _ _ h
flow_widths p q v v' (loop m c a t) r' (w, is, h) = same_wide _ _ h

-- what is entered by a call has the globals of the caller
entered_breadth : (p : Program) (g l : List Bool) (r : Code) (s : ℕ) (e : Valuation) → Calls p g l r s e → length g ≡ length e.globals
entered_breadth p g l r s e calls =
    let (es, called, h) = call_shape p g l r s e calls in
    let (routine, is, at) =
    routine_found (slice_get p.routines s) (λ z. e ≡ record { globals = g; places = fresh (frame_size z) (values_of g l es) }) h in
    sym (ap (λ (z : Valuation). length z.globals) at)

-- removing a frame keeps the number of globals
given_breadth : (v : Bool) (g : List Bool) (fs : List Frame) → breadth (given_back v g fs) ≡ length g
given_breadth v g (waiting c l x t ∷ fs) = length_globals (x ∷ []) (v ∷ []) g
given_breadth v g _ = refl

step_breadth : (p : Program) (s t : State) → Step p s t → breadth s ≡ breadth t
step_breadth p (state g (frame q l r ∷ fs)) t h = by_kind ((step_kinds p q v r fs t).0 h)
  where
    v : Valuation
    v = record { globals = g; places = l }

    by_kind : FlowsTo p q v r fs t ⊎ (ReturnsTo p q v r fs t ⊎ EntersTo p q v r fs t) → length g ≡ breadth t
    by_kind (inl (v', r', flow, same)) = (flow_widths p q v v' r r' flow).0 ∙ sym (ap breadth same)
    by_kind (inr (inl (e, same))) = sym (given_breadth (result_of (slice_get p.routines q) l) g fs) ∙ sym (ap breadth same)
    by_kind (inr (inr (s, e, calls, same))) = entered_breadth p g l r s e calls ∙ sym (ap breadth same)
step_breadth p _ t h = absurd h

steps_breadth : (p : Program) (n : ℕ) (s t : State) → AfterSteps p n s (λ u. u ≡ t) → breadth s ≡ breadth t
steps_breadth p zero s t e = ap breadth e
steps_breadth p (suc n) s t run =
    let (u, step, more) = steps_pick p s (λ u. AfterSteps p n u (λ z. z ≡ t)) run in
    step_breadth p s u step ∙ steps_breadth p n u t more

asked_valuation : (p : Program) → ArgumentsFit p → (c q : ℕ) (a : Valuation) → Asks p c q a → IsValuationOf p q a
asked_valuation p fit c q a (g, l, r, fs, (n, run), calls) =
    let (es, called, h) = call_shape p g l r q a calls in
    let (routine, is, at) =
    routine_found (slice_get p.routines q) (λ z. a ≡ record { globals = g; places = fresh (frame_size z) (values_of g l es) }) h in
    let rest = frame_stands p g (frame c l r ∷ fs) c l r (n, run) (inl refl) in
    let few : length es ≤ routine.places = subst (λ o. AtRoutine o (λ z. length es ≤ z.places)) is (fit c q r es rest called) in
    let within : routine.places ≤ frame_size routine = places_within routine in
    let count : length (values_of g l es) ≡ length es = length_values g l es in
    let places : length a.places ≡ frame_size routine =
    ap (λ (z : Valuation). length z.places) at
    ∙ length_fresh (frame_size routine) (values_of g l es) (omega (arith, few, within, count)) in (
      sym (entered_breadth p g l r q a calls) ∙ sym (steps_breadth p n _ _ run) ∙ length_zeros p.globals,
      subst (λ o. AtRoutine o (λ z. length a.places ≡ frame_size z)) (sym is) places,
    )

zero_valuation : (p : Program) (a : Valuation) → IsZero p a → IsValuationOf p 0 a
zero_valuation p a begins =
    let (routine, is, at) =
    routine_found (slice_get p.routines 0) (λ z. a ≡ record { globals = zeros p.globals; places = zeros (frame_size z) }) begins in (
      ap (λ (z : Valuation). length z.globals) at ∙ length_zeros p.globals,
      subst (λ o. AtRoutine o (λ z. length a.places ≡ frame_size z)) (sym is)
          (ap (λ (z : Valuation). length z.places) at ∙ length_zeros (frame_size routine)),
    )

entered_valuation : (p : Program) → ArgumentsFit p → (q : ℕ) (a : Valuation) → Entered p q a → IsValuationOf p q a
entered_valuation p fit q a (inl (e, begins)) = subst (λ z. IsValuationOf p z a) (sym e) (zero_valuation p a begins)
entered_valuation p fit q a (inr (c, asking)) = asked_valuation p fit c q a asking

-- a message that is due has the right widths
pub due_message : (p : Program) → ArgumentsFit p → (q : ℕ) (m : Message) → IsDue p q m → IsMessageTo p q m
due_message p fit q (entry from a) due = entered_valuation p fit q a (due_entered p q from a due)
due_message p fit q (summary s a b) (asking, pair) =
    let (l, result, (entered, (n, run))) = pair_inside p s a b pair in
    let whole = asked_valuation p fit q s a asking in
    (whole, sym (steps_breadth p n (alone p s a) (state b.globals (frame s l done ∷ [])) run) ∙ whole.0)

pub same_valuation : (p : Program) (q : ℕ) (v w : Valuation) → SameWidths v w → IsValuationOf p q v → IsValuationOf p q w
same_valuation p q v w (globals, places) (g, l) =
    (sym globals ∙ g, subst (λ n. AtRoutine (slice_get p.routines q) (λ z. n ≡ frame_size z)) places l)

-- a caller continues with its own places, and with as many globals as its call has left
pub resumed_widths : (x : Option Place) (v : Valuation) (b : Exit) →
    SameWidths (record { globals = b.globals; places = v.places }) (resumed_with x v b)
resumed_widths None v b = (refl, refl)
resumed_widths (Some x) v b =
    (sym (length_globals (x ∷ []) (b.result ∷ []) b.globals), sym (length_locals (x ∷ []) (b.result ∷ []) v.places))

-- by messages of the right widths, what is reached has them
pub reached_valuation : (p : Program) (q : ℕ) (M : Message → Type 0) → ((m : Message) → M m → IsMessageTo p q m)
    → (a v : Valuation) (r : Code) →
    Reached p q M a v r → IsValuationOf p q v
reached_valuation p q M right _ _ _ (starts from a is) = right (entry from a) is
reached_valuation p q M right _ _ _ (flows a v v' r r' reached flow) =
    same_valuation p q v v' (flow_widths p q v v' r r' flow) (reached_valuation p q M right a v r reached)
reached_valuation p q M right _ _ _ (returns a v e r s b reached calls is) =
    same_valuation p q (record { globals = b.globals; places = v.places }) (resumed_with (target_of r) v b)
    (resumed_widths (target_of r) v b) ((right (summary s e b) is).1, (reached_valuation p q M right a v r reached).1)
