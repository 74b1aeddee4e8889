-- By messages that are closed under owing, all path edges are reached, and all that is due is there.
use Rattle.std.proofs.Common.{◌≡◌, ◌⊎◌, ℕ, zero, suc, List, [], ◌∷◌, Bool, Option, Some, None, inl, inr, refl, sym, ap, subst, slice_get}
use Rattle.language.specs.Tree.{done}
use Rattle.language.specs.Rest.{Code, target_of}
use Rattle.language.specs.Step.{Routine, Program, Frame, frame, waiting, State, state, zeros, frame_size, result_of, given_back}
use Rattle.language.specs.Step.{AtRoutine, body_of, Step, AfterSteps}
use Rattle.language.specs.Sequential.{Valuation, Reaches, Calls, Asks, Entered, Exit, exit_of}
use Rattle.language.specs.Sequential.{Caller, starter, caller, Message, entry, summary, IsDue}
use Rattle.language.specs.Rounds.{starting_stack}
use Rattle.language.specs.Flow.{FlowsTo, ReturnsTo, EntersTo, after_first, caller_frame}
use Rattle.language.specs.Messages.{Reached, starts, flows, returns, asks, tells, HasOpening, HasOwed}
use Rattle.language.proofs.Runs.{steps_pick}
use Rattle.language.proofs.StepKinds.{step_kinds}
use Rattle.language.proofs.RunsOver.{given_caller}
use Rattle.language.proofs.Sound.{Inside, alone, pair_inside}

-- what procedure q reaches by its own messages
abbrev Reaching : Program → (ℕ → Message → Type 0) → ℕ → Valuation → Valuation → Code → Type 0
Reaching p M q a v r = Reached p q (M q) a v r

-- The frames wait for procedure q, entered with a: each has reached the call that it waits for. Below them is an
-- entering of procedure k with z.
abbrev Wait : Program → (ℕ → Message → Type 0) → ℕ → Valuation → ℕ → Valuation → List Frame → Type 0
Wait p M k z q a [] = (q ≡ k) × (a ≡ z)
Wait p M k z q a (f ∷ fs) =
    (c : ℕ) × (b : Valuation) × (v : Valuation) × (r : Code) × (f ≡ caller_frame c v.places (target_of r) (after_first r))
    × Reaching p M c b v r × Calls p v.globals v.places r q a × Wait p M k z c b fs

-- the top frame has been reached, and the others wait for it
abbrev Held : Program → (ℕ → Message → Type 0) → ℕ → Valuation → State → Type 0
Held p M k z (state g []) = Unit {0}
Held p M k z (state g (waiting q l x r ∷ fs)) = ⊥
Held p M k z (state g (frame q l r ∷ fs)) =
    (a : Valuation) × Reaching p M q a (record { globals = g; places = l }) r × Wait p M k z q a fs

-- the procedure called takes the entry
called : (p : Program) (M : ℕ → Message → Type 0) → HasOwed p M → (q : ℕ) (a v e : Valuation) (r : Code) (s : ℕ) →
    Reaching p M q a v r → Calls p v.globals v.places r s e → M s (entry (caller q) e)
called p M closed q a v e r s reached calls = closed q s (entry (caller q) e) (asks a v e r s reached calls)

-- a caller continues after its call
back : (p : Program) (M : ℕ → Message → Type 0) → HasOwed p M → (k : ℕ) (z : Valuation) (q : ℕ) (a v : Valuation) → Reaching p M q a v done
    →
    (fs : List Frame) → Wait p M k z q a fs → Held p M k z (given_back (result_of (slice_get p.routines q) v.places) v.globals fs)
back p M closed k z q a v reached [] wait = tt
back p M closed k z q a v reached (f ∷ fs) (c, b, u, r, same, before, calls, below) =
    let left : Exit = exit_of p q v in
    let entered = called p M closed c b u a r q before calls in
    let told = closed q c (summary q a left) (tells a v c entered reached) in
    let held : Held p M k z (given_back left.result left.globals (caller_frame c u.places (target_of r) (after_first r) ∷ fs)) =
    subst (Held p M k z) (sym (given_caller c u (target_of r) (after_first r) fs left))
    (b, returns b u a r q left before calls told, below) in
    subst (λ h. Held p M k z (given_back left.result left.globals (h ∷ fs))) (sym same) held

held_step : (p : Program) (M : ℕ → Message → Type 0) → HasOwed p M → (k : ℕ) (z : Valuation) (s t : State) → Held p M k z s → Step p s t
    → Held p M k z t
held_step p M closed k z (state g (frame q l r ∷ fs)) t (a, reached, wait) step = by_kind ((step_kinds p q v r fs t).0 step)
  where
    v : Valuation
    v = record { globals = g; places = l }

    by_kind : FlowsTo p q v r fs t ⊎ (ReturnsTo p q v r fs t ⊎ EntersTo p q v r fs t) → Held p M k z t
    by_kind (inl (v', r', flow, same)) = subst (Held p M k z) (sym same) (a, flows a v v' r r' reached flow, wait)
    by_kind (inr (inl (e, same))) =
        subst (Held p M k z) (sym same) (back p M closed k z q a v (subst (Reaching p M q a v) e reached) fs wait)
    by_kind (inr (inr (s, e, calls, same))) =
        subst (Held p M k z) (sym same)
        (e, starts (caller q) e (called p M closed q a v e r s reached calls), (q, a, v, r, refl, reached, calls, wait))
held_step p M closed k z _ t held step = absurd step

held_steps : (p : Program) (M : ℕ → Message → Type 0) → HasOwed p M → (k : ℕ) (z : Valuation) (n : ℕ) (s t : State) →
    Held p M k z s → AfterSteps p n s (λ u. u ≡ t) → Held p M k z t
held_steps p M closed k z zero s t held e = subst (Held p M k z) e held
held_steps p M closed k z (suc n) s t held run =
    let (u, step, more) = steps_pick p s (λ u. AfterSteps p n u (λ x. x ≡ t)) run in
    held_steps p M closed k z n u t (held_step p M closed k z s u held step) more

-- the stack from an entering on: its one frame has been reached
alone_held : (p : Program) (M : ℕ → Message → Type 0) (q : ℕ) (a : Valuation) (from : Caller) → M q (entry from a)
    → Held p M q a (alone p q a)
alone_held p M q a from is = (a, starts from a is, (refl, refl))

-- what holds for the whole body
whole_held : (p : Program) (M : ℕ → Message → Type 0) (q : ℕ) (a : Valuation) (routine : Routine) → slice_get p.routines q ≡ Some routine →
    Held p M q a (alone p q a) → Held p M q a (state a.globals (frame q a.places routine.body ∷ []))
whole_held p M q a routine e held =
    subst (λ b. Held p M q a (state a.globals (frame q a.places b ∷ []))) (ap body_of e) held

-- the stack before the first step
start_held : (p : Program) (M : ℕ → Message → Type 0) → HasOpening p M →
    (z : Valuation) × Held p M 0 z (state (zeros p.globals) (starting_stack p.routines 0))
start_held p M opened = of_routine (slice_get p.routines 0) refl
  where
    of_routine : (o : Option Routine) → slice_get p.routines 0 ≡ o →
        (z : Valuation)
        × Held p M 0 z
        (state (zeros p.globals)
        (elim o as (λ x. List Frame) [ None ↦ [] | Some routine ↦ frame 0 (zeros (frame_size routine)) routine.body ∷ [] ]))
    of_routine None e = (record { globals = []; places = [] }, tt)
    of_routine (Some routine) e =
        let z : Valuation = record { globals = zeros p.globals; places = zeros (frame_size routine) } in
        let begins =
        subst (λ o. AtRoutine o (λ r. z ≡ record { globals = zeros p.globals; places = zeros (frame_size r) })) (sym e) refl in
        (z, whole_held p M 0 z routine e (alone_held p M 0 z starter (opened z begins)))

-- in a sequential run the top frame has been reached
top_reached : (p : Program) (M : ℕ → Message → Type 0) → HasOpening p M → HasOwed p M
    → (g l : List Bool) (q : ℕ) (r : Code) (fs : List Frame) →
    Reaches p (state g (frame q l r ∷ fs)) → (a : Valuation) × Reaching p M q a (record { globals = g; places = l }) r
top_reached p M opened closed g l q r fs (n, run) =
    let (z, begun) = start_held p M opened in
    let (a, reached, wait) =
    held_steps p M closed 0 z n (state (zeros p.globals) (starting_stack p.routines 0)) (state g (frame q l r ∷ fs)) begun run in
    (a, reached)

asked_had : (p : Program) (M : ℕ → Message → Type 0) → HasOpening p M → HasOwed p M → (c q : ℕ) (e : Valuation) → Asks p c q e
    → M q (entry (caller c) e)
asked_had p M opened closed c q e (g, l, r, fs, reaches, calls) =
    let (a, reached) = top_reached p M opened closed g l c r fs reaches in
    called p M closed c a (record { globals = g; places = l }) e r q reached calls

-- what is entered has an entry
entered_had : (p : Program) (M : ℕ → Message → Type 0) → HasOpening p M → HasOwed p M → (q : ℕ) (a : Valuation) → Entered p q a →
    (from : Caller) × M q (entry from a)
entered_had p M opened closed q a (inl (e, begins)) = (starter, subst (λ z. M z (entry starter a)) (sym e) (opened a begins))
entered_had p M opened closed q a (inr (c, asking)) = (caller c, asked_had p M opened closed c q a asking)

pub inside_reached : (p : Program) (M : ℕ → Message → Type 0) → HasOpening p M → HasOwed p M → (q : ℕ) (a v : Valuation) (r : Code) →
    Inside p q a v r → Reached p q (M q) a v r
inside_reached p M opened closed q a v r (entered, (n, run)) =
    let (from, is) = entered_had p M opened closed q a entered in
    let (b, reached, (same, at)) =
    held_steps p M closed q a n (alone p q a) (state v.globals (frame q v.places r ∷ [])) (alone_held p M q a from is) run in
    subst (λ z. Reached p q (M q) z v r) at reached

pub due_had : (p : Program) (M : ℕ → Message → Type 0) → HasOpening p M → HasOwed p M → (q : ℕ) (m : Message) → IsDue p q m → M q m
due_had p M opened closed q (entry starter a) (e, begins) = subst (λ z. M z (entry starter a)) (sym e) (opened a begins)
due_had p M opened closed q (entry (caller c) a) asking = asked_had p M opened closed c q a asking
due_had p M opened closed q (summary s a b) (asking, pair) =
    let (l, result, inside) = pair_inside p s a b pair in
    let v : Valuation = record { globals = b.globals; places = l } in
    let entered = asked_had p M opened closed q s a asking in
    let told = closed s q (summary s a (exit_of p s v)) (tells a v q entered (inside_reached p M opened closed s a v done inside)) in
    subst (λ z. M q (summary s a (record { globals = b.globals; result = z }))) (sym result) told
