-- Runs of several threads in rounds (after the bound on contexts of Qadeer and Rehof 2005; here the bound
-- is on rounds). In each round every thread has one turn, in order.
use Rattle.std.specs.Prelude.{◌≡◌, ℕ, zero, suc, ◌<◌, Bool, List, [], ◌∷◌, Option, Some, None, map, ◌⊎◌, slice_get}
use Rattle.language.specs.Step.{Routine, Program, Frame, frame, State, state, zeros, frame_size, Runs, Fails}

-- one turn for each thread in order, each zero or more steps on the common globals
abbrev pub Round : Program → List Bool → List (List Frame) → List Bool → List (List Frame) → Type 0
Round program globals [] g' stacks' = (g' ≡ globals) × (stacks' ≡ [])
Round program globals (stack ∷ stacks) g' [] = ⊥
Round program globals (stack ∷ stacks) g' (stack' ∷ stacks') =
    (h : List Bool) × Runs program (state globals stack) (state h stack') × Round program h stacks g' stacks'

-- n rounds, one after the other
abbrev pub Rounds : Program → ℕ → List Bool → List (List Frame) → List Bool → List (List Frame) → Type 0
Rounds program zero globals stacks g' stacks' = (g' ≡ globals) × (stacks' ≡ stacks)
Rounds program (suc n) globals stacks g' stacks' =
    (h : List Bool) × (mid : List (List Frame)) × Round program globals stacks h mid × Rounds program n h mid g' stacks'

-- in this round a thread comes to a failing assert, after a turn of each thread before it
abbrev pub FailsInRound : Program → List Bool → List (List Frame) → Type 0
FailsInRound program globals [] = ⊥
FailsInRound program globals (stack ∷ stacks) =
    ((s : State) × Runs program (state globals stack) s × Fails s)
    ⊎ ((h : List Bool) × (stack' : List Frame) × Runs program (state globals stack) (state h stack') × FailsInRound program h stacks)

-- the stack of a thread before its first step: one frame of its procedure, whose values are 0
abbrev pub starting_stack : List Routine → ℕ → List Frame
starting_stack routines procedure = of_routine (slice_get routines procedure)
  where
    of_routine : Option Routine → List Frame
    of_routine None = []
    of_routine (Some routine) = frame procedure (zeros (frame_size routine)) routine.body ∷ []

-- Unsafe within k rounds: after some number of whole rounds below k, from globals of 0 and fresh stacks,
-- some thread comes to a failing assert in the next round.
abbrev pub Unsafe : Program → ℕ → Type 0
Unsafe program k =
    (r : ℕ) × (r < k) × (g : List Bool) × (stacks : List (List Frame))
    × Rounds program r (zeros program.globals) (map (starting_stack program.routines) program.threads) g stacks
    × FailsInRound program g stacks
