-- One step of one thread, over the globals and the thread's stack of frames.
use Rattle.std.specs.Prelude.{◌≡◌, ℕ, zero, suc, ◌+◌, ◌-◌, Bool, true, false, List, [], ◌∷◌, ◌++◌, Option, Some}
use Rattle.std.specs.Prelude.{None, length, cond, slice_get}
use Rattle.language.specs.Tree.{done, one, choose, loop, skip, assign, assert, assume, goto, leave, call, leave_with, call_for}
use Rattle.language.specs.Value.{Place, bit, with_bit, value_of, values_of, IsValue, AreValues, written_globals, written_locals}
use Rattle.language.specs.Rest.{Code, join, rest_from}

-- a procedure of a resolved program: how many places its frame has beside the result, whether it gives a value,
-- and its body
pub record Routine : Type 0 where
  pub places : ℕ
  pub gives : Bool
  pub body : Code

-- a resolved program: how many globals it has, its procedures by number, and of each thread in order
-- the procedure that it starts in
pub record Program : Type 0 where
  pub globals : ℕ
  pub routines : List Routine
  pub threads : List ℕ

-- a frame: its procedure, the values of its formals, locals and temporaries, then of its result if the procedure
-- gives one, and what is left to run; or a caller that waits, and the variable that gets the value of its call
pub data Frame : Type 0 where
  frame : ℕ → List Bool → Code → Frame
  waiting : ℕ → List Bool → Place → Code → Frame

-- the globals, and one thread's stack with the top frame first
pub data State : Type 0 where
  state : List Bool → List Frame → State

-- n values of 0
abbrev pub zeros : ℕ → List Bool
zeros zero = []
zeros (suc n) = false ∷ zeros n

-- the values of a new frame with a given number of places: the arguments, and 0 in every other place
abbrev pub fresh : ℕ → List Bool → List Bool
fresh n arguments = arguments ++ zeros (n - length arguments)

-- how many values a frame of the procedure has: one for each place, and one more for the result, if it gives one
abbrev pub frame_size : Routine → ℕ
frame_size routine = routine.places + cond routine.gives 1 0

-- the result in these values of a frame: 0 if the procedure gives none
abbrev pub result_of : Option Routine → List Bool → Bool
result_of None locals = false
result_of (Some routine) locals = cond routine.gives (bit locals routine.places) false

-- these values of a frame with another result
abbrev pub with_result : Option Routine → List Bool → Bool → List Bool
with_result None locals v = locals
with_result (Some routine) locals v = with_bit locals routine.places v

-- what is left when a frame with this result is removed: the frame below continues, and one that waits gets the
-- result written to its variable
abbrev pub given_back : Bool → List Bool → List Frame → State
given_back v globals [] = state globals []
given_back v globals (frame procedure locals rest ∷ fs) = state globals (frame procedure locals rest ∷ fs)
given_back v globals (waiting procedure locals x rest ∷ fs) =
    state (written_globals (x ∷ []) (v ∷ []) globals) (frame procedure (written_locals (x ∷ []) (v ∷ []) locals) rest ∷ fs)

-- the procedure with this number has the property
abbrev pub AtRoutine : Option Routine → (Routine → Type 0) → Type 0
AtRoutine None P = ⊥
AtRoutine (Some routine) P = P routine

-- there is a rest, and it has the property
abbrev pub AtRest : Option Code → (Code → Type 0) → Type 0
AtRest None P = ⊥
AtRest (Some rest) P = P rest

-- the body of a procedure; nothing if there is none
abbrev pub body_of : Option Routine → Code
body_of None = done
body_of (Some routine) = routine.body

-- Some step of the top frame leads to a state with the property Q. A finished frame is removed, and its result with
-- it. `assert` and `assume` have a step only if 1 is a value. An empty stack has no step, nor has a frame that
-- waits.
abbrev pub StepsTo : Program → State → (State → Type 0) → Type 0
StepsTo program (state globals []) Q = ⊥
StepsTo program (state globals (waiting procedure locals x rest ∷ fs)) Q = ⊥
StepsTo program (state globals (frame procedure locals done ∷ fs)) Q =
    Q (given_back (result_of (slice_get program.routines procedure) locals) globals fs)
StepsTo program (state globals (frame procedure locals (one mark skip rest) ∷ fs)) Q = Q (state globals (frame procedure locals rest ∷ fs))
StepsTo program (state globals (frame procedure locals (one mark (assign xs rs) rest) ∷ fs)) Q =
    (vs : List Bool) × AreValues globals locals rs vs
    × Q (state (written_globals xs vs globals) (frame procedure (written_locals xs vs locals) rest ∷ fs))
StepsTo program (state globals (frame procedure locals (one mark (assert side) rest) ∷ fs)) Q = IsValue globals locals side true
    × Q (state globals (frame procedure locals rest ∷ fs))
StepsTo program (state globals (frame procedure locals (one mark (assume side) rest) ∷ fs)) Q = IsValue globals locals side true
    × Q (state globals (frame procedure locals rest ∷ fs))
StepsTo program (state globals (frame procedure locals (one mark (goto label) remaining) ∷ fs)) Q =
    AtRest (rest_from label (body_of (slice_get program.routines procedure)) done)
    (λ rest. Q (state globals (frame procedure locals rest ∷ fs)))
StepsTo program (state globals (frame procedure locals (one mark leave rest) ∷ fs)) Q = Q (state globals (frame procedure locals done ∷ fs))
StepsTo program (state globals (frame procedure locals (one mark (call callee es) rest) ∷ fs)) Q =
    AtRoutine (slice_get program.routines callee) (λ routine.
    Q (state globals
    (frame callee (fresh (frame_size routine) (values_of globals locals es)) routine.body ∷ frame procedure locals rest ∷ fs)))
StepsTo program (state globals (frame procedure locals (one mark (leave_with expression) rest) ∷ fs)) Q =
    Q (state globals
    (frame procedure (with_result (slice_get program.routines procedure) locals (value_of globals locals expression)) done ∷ fs))
StepsTo program (state globals (frame procedure locals (one mark (call_for x callee es) rest) ∷ fs)) Q =
    AtRoutine (slice_get program.routines callee) (λ routine.
    Q (state globals
    (frame callee (fresh (frame_size routine) (values_of globals locals es)) routine.body ∷ waiting procedure locals x rest ∷ fs)))
StepsTo program (state globals (frame procedure locals (choose mark side if_true if_false rest) ∷ fs)) Q =
    (v : Bool) × IsValue globals locals side v
    × Q (state globals (frame procedure locals (cond v (join if_true rest) (join if_false rest)) ∷ fs))
StepsTo program (state globals (frame procedure locals (loop mark side body rest) ∷ fs)) Q =
    (v : Bool) × IsValue globals locals side v
    × Q (state globals (frame procedure locals (cond v (join body (loop mark side body rest)) rest) ∷ fs))

-- one step leads from the one state to the other
abbrev pub Step : Program → State → State → Type 0
Step program before after = StepsTo program before (λ u. u ≡ after)

-- n steps lead from the start to a state with the property Q
abbrev pub AfterSteps : Program → ℕ → State → (State → Type 0) → Type 0
AfterSteps program zero start Q = Q start
AfterSteps program (suc n) start Q = StepsTo program start (λ t. AfterSteps program n t Q)

-- some number of steps, perhaps none, leads from the one state to the other
abbrev pub Runs : Program → State → State → Type 0
Runs program before after = (n : ℕ) × AfterSteps program n before (λ u. u ≡ after)

-- the first statement of the top frame is an `assert` for which 0 is a value
abbrev pub Fails : State → Type 0
Fails (state globals []) = ⊥
Fails (state globals (waiting procedure locals x rest ∷ fs)) = ⊥
Fails (state globals (frame procedure locals done ∷ fs)) = ⊥
Fails (state globals (frame procedure locals (one mark (assert side) rest) ∷ fs)) = IsValue globals locals side false
Fails (state globals (frame procedure locals (one mark _ rest) ∷ fs)) = ⊥
Fails (state globals (frame procedure locals (choose mark side if_true if_false rest) ∷ fs)) = ⊥
Fails (state globals (frame procedure locals (loop mark side body rest) ∷ fs)) = ⊥
