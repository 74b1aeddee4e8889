-- A sequential program: one thread, whose first procedure is the one that it starts in. Its statements are
-- marked with their numbers in text order, from 1, an `if` or `while` before what it holds.
-- (Path edges and summary edges after Ball and Rajamani 2000.)
use Rattle.std.specs.Prelude.{◌≡◌, ℕ, zero, suc, ◌+◌, Bool, true, List, [], ◌∷◌, ◌++◌, Option, Some, None, map, ◌⊎◌, slice_get}
use Rattle.language.specs.Tree.{Expression, Mark, Block, done, one, choose, loop, Tree}
use Rattle.language.specs.Value.{Place, bit, values_of, written_globals, written_locals}
use Rattle.language.specs.Rest.{Code, called_by}
use Rattle.language.specs.Step.{Routine, Program, Frame, frame, State, state, zeros, fresh, frame_size, result_of, AtRoutine, Runs}
use Rattle.language.specs.Rounds.{starting_stack}
use Rattle.language.specs.Resolve.{meaning_of}

-- how many statements a block has, including those inside others
abbrev pub statements : {V P L : Type 0} → Block V P L → ℕ
statements done = 0
statements (one mark statement rest) = suc (statements rest)
statements (choose mark side if_true if_false rest) = suc (statements if_true + (statements if_false + statements rest))
statements (loop mark side body rest) = suc (statements body + statements rest)

-- the mark with another number
abbrev pub marked : {L : Type 0} → ℕ → Mark L → Mark L
marked n mark = record { label = mark.label; at = n }

-- the block, its statements marked with their numbers in text order, the first with n
abbrev pub numbered : {V P L : Type 0} → ℕ → Block V P L → Block V P L
numbered n done = done
numbered n (one mark statement rest) = one (marked n mark) statement (numbered (suc n) rest)
numbered n (choose mark side if_true if_false rest) =
    choose (marked n mark) side (numbered (suc n) if_true) (numbered (suc n + statements if_true) if_false)
    (numbered (suc n + (statements if_true + statements if_false)) rest)
numbered n (loop mark side body rest) = loop (marked n mark) side (numbered (suc n) body) (numbered (suc n + statements body) rest)

-- the numbers that the statements are marked with, in text order
abbrev pub points : {V P L : Type 0} → Block V P L → List ℕ
points done = []
points (one mark statement rest) = mark.at ∷ points rest
points (choose mark side if_true if_false rest) = mark.at ∷ (points if_true ++ (points if_false ++ points rest))
points (loop mark side body rest) = mark.at ∷ (points body ++ points rest)

-- n numbers one after the other, the first of them k
abbrev pub numbers : ℕ → ℕ → List ℕ
numbers k zero = []
numbers k (suc n) = k ∷ numbers (suc k) n

-- the procedure, its statements marked with their numbers in text order, from 1
abbrev pub numbered_routine : Routine → Routine
numbered_routine routine = record { places = routine.places; gives = routine.gives; body = numbered 1 routine.body }

-- the program, the statements of each procedure marked with their numbers in text order, from 1
abbrev pub in_text_order : Program → Program
in_text_order program = record { globals = program.globals; routines = map numbered_routine program.routines; threads = program.threads }

-- what a text's tree means as a sequential program
abbrev pub sequential_of : Tree → Program
sequential_of tree = in_text_order (meaning_of tree)

-- a valuation: the globals in order, and the values of one frame (formals, locals, temporaries, result)
pub record Valuation : Type 0 where
  pub globals : List Bool
  pub places : List Bool

-- the point of a rest: the number of its first statement, or none, which is the exit
abbrev pub point_of : Code → Option ℕ
point_of done = None
point_of (one mark statement rest) = Some mark.at
point_of (choose mark side if_true if_false rest) = Some mark.at
point_of (loop mark side body rest) = Some mark.at

-- a sequential run, from globals of 0 and one frame of procedure 0, comes to this state
abbrev pub Reaches : Program → State → Type 0
Reaches program reached = Runs program (state (zeros program.globals) (starting_stack program.routines 0)) reached

-- there is a call, and its procedure and arguments have the property
abbrev pub AtCall : Option (ℕ × List (Expression Place)) → (ℕ → List (Expression Place) → Type 0) → Type 0
AtCall None P = ⊥
AtCall (Some (callee, es)) P = P callee es

-- the first statement of this rest calls the procedure, with the values that make up a new frame of it
abbrev pub Calls : Program → List Bool → List Bool → Code → ℕ → Valuation → Type 0
Calls program g l rest procedure entered = AtCall (called_by rest) (λ callee es.
    (callee ≡ procedure) × AtRoutine (slice_get program.routines procedure) (λ r.
    entered ≡ record { globals = g; places = fresh (frame_size r) (values_of g l es) }))

-- some sequential run has the asking procedure on top, and its next step enters the other so
abbrev pub Asks : Program → ℕ → ℕ → Valuation → Type 0
Asks program asking procedure entered =
    (g : List Bool) × (l : List Bool) × (rest : Code) × (fs : List Frame)
    × Reaches program (state g (frame asking l rest ∷ fs)) × Calls program g l rest procedure entered

-- the valuation with which procedure 0 is entered first: every value is 0
abbrev pub IsZero : Program → Valuation → Type 0
IsZero program entered =
    AtRoutine (slice_get program.routines 0) (λ r. entered ≡ record { globals = zeros program.globals; places = zeros (frame_size r) })

-- an entry valuation of the procedure: all 0 if it is procedure 0, or one with which some procedure enters it
abbrev pub Entered : Program → ℕ → Valuation → Type 0
Entered program procedure entered = ((procedure ≡ 0) × IsZero program entered) ⊎ ((c : ℕ) × Asks program c procedure entered)

-- A path edge: the procedure is entered so, and steps from a single frame of it with the entry valuation lead
-- to a single frame of it with the other valuation at this point.
abbrev pub Edge : Program → ℕ → Valuation → Option ℕ → Valuation → Type 0
Edge program procedure entered point valuation =
    Entered program procedure entered × AtRoutine (slice_get program.routines procedure) (λ r.
    (rest : Code) × (point ≡ point_of rest)
    × Runs program (state entered.globals (frame procedure entered.places r.body ∷ []))
    (state valuation.globals (frame procedure valuation.places rest ∷ [])))

-- what a procedure leaves at its exit: the globals, and the result, which is 0 if it gives none
pub record Exit : Type 0 where
  pub globals : List Bool
  pub result : Bool

-- what the procedure leaves when it reaches its exit with this valuation
abbrev pub exit_of : Program → ℕ → Valuation → Exit
exit_of program procedure valuation =
    record { globals = valuation.globals; result = result_of (slice_get program.routines procedure) valuation.places }

-- the valuation with which a caller continues after a call that has left this: its places are its own, and the
-- variable that it called for, if any, gets the result
abbrev pub resumed_with : Option Place → Valuation → Exit → Valuation
resumed_with None valuation exit = record { globals = exit.globals; places = valuation.places }
resumed_with (Some x) valuation exit = record {
  globals = written_globals (x ∷ []) (exit.result ∷ []) exit.globals;
  places = written_locals (x ∷ []) (exit.result ∷ []) valuation.places;
}

-- A summary edge, or pair: a path edge to the exit, where this is left.
abbrev pub Pair : Program → ℕ → Valuation → Exit → Type 0
Pair program procedure entered exit =
    (l : List Bool) × (exit.result ≡ result_of (slice_get program.routines procedure) l)
    × Edge program procedure entered None (record { globals = exit.globals; places = l })

-- some pair of the first procedure has `bad`, which a sequential program keeps in the global with this number
abbrev pub SomeBad : Program → ℕ → Type 0
SomeBad program bad = (a : Valuation) × (b : Exit) × Pair program 0 a b × (bit b.globals bad ≡ true)

-- who sends an entry: the starter, or the procedure that calls
pub data Caller : Type 0 where
  starter : Caller
  caller : ℕ → Caller

-- a message: an entry valuation with who enters, or a pair of a procedure
pub data Message : Type 0 where
  entry : Caller → Valuation → Message
  summary : ℕ → Valuation → Exit → Message

-- The message is due for the procedure: the starter's entry of procedure 0, an entry of it that some procedure
-- asks for, or a pair of another that it enters so.
abbrev pub IsDue : Program → ℕ → Message → Type 0
IsDue program procedure (entry starter entered) = (procedure ≡ 0) × IsZero program entered
IsDue program procedure (entry (caller other) entered) = Asks program other procedure entered
IsDue program procedure (summary other entered exit) = Asks program procedure other entered × Pair program other entered exit
