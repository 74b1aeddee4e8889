-- A program as threads that share globals.
use Rattle.std.specs.Prelude.{◌≡◌, ℕ, Bool, List, [], ◌∷◌, map, slice_get}
use Rattle.language.specs.Tree.{done}
use Rattle.language.specs.Rest.{Code, target_of}
use Rattle.language.specs.Step.{Program, Frame, frame, waiting, state, zeros, body_of, result_of, given_back, Fails}
use Rattle.language.specs.Sequential as calls
use Rattle.language.specs.Sequential.{Valuation}
use Rattle.language.specs.Flow.{Flow, after_first, caller_frame}
use Rattle.language.specs.Rounds.{starting_stack}
use Rattle.turns.specs.Machines.{Machine}
use Rattle.turns.specs.Between.{Threads}

-- these globals and these values of a frame
abbrev pub valued : List Bool → List Bool → Valuation
valued globals places = record { globals = globals; places = places }

-- a step inside the call leads from the one frame to the other
abbrev pub Moves : Program → List Bool → Frame → List Bool → Frame → Type 0
Moves program g (waiting c l x r) h f' = ⊥
Moves program g (frame c l r) h f' =
    (l' : List Bool) × (r' : Code) × Flow program c (valued g l) r (valued h l') r' × (f' ≡ frame c l' r')

-- the frame calls: the first frame of the call, and what the caller keeps below it
abbrev pub CallsFrom : Program → List Bool → Frame → Frame → Frame → Type 0
CallsFrom program g (waiting c l x r) entered kept = ⊥
CallsFrom program g (frame c l r) entered kept =
    (n : ℕ) × (a : Valuation) × calls.Calls program g l r n a × (entered ≡ frame n a.places (body_of (slice_get program.routines n)))
    × (kept ≡ caller_frame c l (target_of r) (after_first r))

-- the frame is finished, and its result goes to the frame below, which continues
abbrev pub ReturnsTo : Program → List Bool → Frame → Frame → List Bool → Frame → Type 0
ReturnsTo program g (waiting c l x r) below h f' = ⊥
ReturnsTo program g (frame c l r) below h f' =
    (r ≡ done) × (given_back (result_of (slice_get program.routines c) l) g (below ∷ []) ≡ state h (f' ∷ []))

-- the frame is finished
abbrev pub IsFinished : Frame → Type 0
IsFinished (waiting c l x r) = ⊥
IsFinished (frame c l r) = r ≡ done

-- what the top frame of a thread of the program does
abbrev pub machine_of : Program → Machine (List Bool) Frame
machine_of program = record {
  Moves = Moves program;
  Calls = CallsFrom program;
  Returns = ReturnsTo program;
  Ends = λ g f. IsFinished f;
  Fails = λ g f. Fails (state g (f ∷ []));
}

-- the threads of the program
abbrev pub threads_of : Program → Threads (List Bool) Frame
threads_of program = record {
  machine = machine_of program;
  globals = zeros program.globals;
  stacks = map (starting_stack program.routines) program.threads;
}
