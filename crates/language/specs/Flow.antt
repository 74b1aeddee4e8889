-- What can be left to run in a procedure, and the steps inside one call.
use Rattle.std.specs.Prelude.{◌≡◌, ℕ, Bool, List, [], ◌∷◌, ◌++◌, ◌⊎◌, Option, Some, None, slice_get}
use Rattle.language.specs.Lists.{Member}
use Rattle.language.specs.Tree.{done, one, choose, loop}
use Rattle.language.specs.Value.{Place}
use Rattle.language.specs.Rest.{Code, join, target_of}
use Rattle.language.specs.Step.{Program, Frame, frame, waiting, State, state, body_of, result_of, given_back, Step}
use Rattle.language.specs.Sequential.{Valuation, Calls}

-- What is left to run from each statement of a block on, in text order, where `next` comes after the block:
-- after a branch comes what follows its `if`, after a loop's body the loop again.
abbrev pub rests : Code → Code → List Code
rests done next = []
rests (one mark statement rest) next = one mark statement (join rest next) ∷ rests rest next
rests (choose mark side if_true if_false rest) next =
    choose mark side if_true if_false (join rest next)
    ∷ (rests if_true (join rest next) ++ (rests if_false (join rest next) ++ rests rest next))
rests (loop mark side body rest) next =
    loop mark side body (join rest next) ∷ (rests body (loop mark side body (join rest next)) ++ rests rest next)

-- this can be left to run of a body: nothing, or what is left from one of its statements on
abbrev pub IsRestOf : Code → Code → Type 0
IsRestOf body rest = (rest ≡ done) ⊎ Member rest (rests body done)

-- A flow: a step inside one call of a procedure leads from the valuation `before`, with `rest` left to run,
-- to `after` with `next` left to run. A step into a call, or out of it, is none.
abbrev pub Flow : Program → ℕ → Valuation → Code → Valuation → Code → Type 0
Flow program procedure before rest after next =
    Step program (state before.globals (frame procedure before.places rest ∷ []))
    (state after.globals (frame procedure after.places next ∷ []))

-- the top frame, over these callers, has a flow that leads to this state
abbrev pub FlowsTo : Program → ℕ → Valuation → Code → List Frame → State → Type 0
FlowsTo program procedure valuation rest callers reached =
    (v' : Valuation) × (r' : Code) × Flow program procedure valuation rest v' r'
    × (reached ≡ state v'.globals (frame procedure v'.places r' ∷ callers))

-- the top frame is finished, and its removal leads to this state
abbrev pub ReturnsTo : Program → ℕ → Valuation → Code → List Frame → State → Type 0
ReturnsTo program procedure valuation rest callers reached =
    (rest ≡ done)
    × (reached ≡ given_back (result_of (slice_get program.routines procedure) valuation.places) valuation.globals callers)

-- what comes after the first statement of a block
abbrev pub after_first : Code → Code
after_first done = done
after_first (one mark statement rest) = rest
after_first (choose mark side if_true if_false rest) = rest
after_first (loop mark side body rest) = rest

-- the frame of a caller, with what comes after its call: it waits if a variable gets the value of the call
abbrev pub caller_frame : ℕ → List Bool → Option Place → Code → Frame
caller_frame procedure locals None rest = frame procedure locals rest
caller_frame procedure locals (Some target) rest = waiting procedure locals target rest

-- the top frame calls some procedure, whose entering leads to this state: its whole body is left in the new
-- frame, and what comes after the call in the caller's
abbrev pub EntersTo : Program → ℕ → Valuation → Code → List Frame → State → Type 0
EntersTo program procedure valuation rest callers reached =
    (n : ℕ) × (a : Valuation) × Calls program valuation.globals valuation.places rest n a
    × (reached
    ≡ state a.globals
    (frame n a.places (body_of (slice_get program.routines n))
    ∷ caller_frame procedure valuation.places (target_of rest) (after_first rest) ∷ callers))
