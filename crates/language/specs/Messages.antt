-- What one procedure reaches by the messages that it has, and the messages that it then owes.
use Rattle.std.specs.Prelude.{◌≡◌, ◌≤◌, ℕ, List, [], ◌∷◌, Some, length, slice_get, slice_index_or}
use Rattle.language.specs.Tree.{Expression, done}
use Rattle.language.specs.Value.{Place}
use Rattle.language.specs.Rest.{Code, called_by, target_of}
use Rattle.language.specs.Step.{Program, frame, state, AtRoutine, frame_size, body_of, Runs}
use Rattle.language.specs.Sequential.{Valuation, Calls, IsZero, Entered, Exit, exit_of, resumed_with}
use Rattle.language.specs.Sequential.{Caller, starter, caller, Message, entry, summary, IsDue}
use Rattle.language.specs.Flow.{IsRestOf, Flow, after_first}
use Rattle.language.specs.Lists.{Member}

-- By the messages for which M holds, a procedure reaches from an entry valuation another valuation, with some rest
-- left to run: the start of each entry, what a flow leads to, and, after a call, what a summary of it leads to.
pub data Reached (program : Program) (procedure : ℕ) (M : Message → Type 0) : Valuation → Valuation → Code → Type 0 where
  starts : (from : Caller) (a : Valuation) → M (entry from a)
      → Reached program procedure M a a (body_of (slice_get program.routines procedure))
  flows : (a v v' : Valuation) (r r' : Code) → Reached program procedure M a v r → Flow program procedure v r v' r'
      → Reached program procedure M a v' r'
  returns : (a v e : Valuation) (r : Code) (s : ℕ) (b : Exit) → Reached program procedure M a v r → Calls program v.globals v.places r s e →
      M (summary s e b) → Reached program procedure M a (resumed_with (target_of r) v b) (after_first r)

-- By the messages for which M holds, a procedure owes another: the entry of each call of it that is reached,
-- and for each of its entries the summary of each exit that is reached.
pub data Owes (program : Program) (procedure : ℕ) (M : Message → Type 0) : ℕ → Message → Type 0 where
  asks : (a v e : Valuation) (r : Code) (s : ℕ) → Reached program procedure M a v r → Calls program v.globals v.places r s e →
      Owes program procedure M s (entry (caller procedure) e)
  tells : (a v : Valuation) (s : ℕ) → M (entry (caller s) a) → Reached program procedure M a v done
      → Owes program procedure M s (summary procedure a (exit_of program procedure v))

-- each message for which M holds is due for the procedure
abbrev pub AreDue : Program → ℕ → (Message → Type 0) → Type 0
AreDue program procedure M = (m : Message) → M m → IsDue program procedure m

-- Where M says which messages each procedure has: procedure 0 has the starter's entry.
abbrev pub HasOpening : Program → (ℕ → Message → Type 0) → Type 0
HasOpening program M = (a : Valuation) → IsZero program a → M 0 (entry starter a)

-- Where M says which messages each procedure has: each procedure has the messages that some procedure owes it.
abbrev pub HasOwed : Program → (ℕ → Message → Type 0) → Type 0
HasOwed program M = (q s : ℕ) (m : Message) → Owes program q (M q) s m → M s m

-- A path edge with what is left to run: the procedure is entered so, and steps from a single frame of it with
-- the entry valuation lead to a single frame with the other valuation and this left to run.
abbrev pub EdgeTo : Program → ℕ → Valuation → Valuation → Code → Type 0
EdgeTo program procedure entered valuation rest =
    Entered program procedure entered × AtRoutine (slice_get program.routines procedure) (λ routine.
    Runs program (state entered.globals (frame procedure entered.places routine.body ∷ []))
    (state valuation.globals (frame procedure valuation.places rest ∷ [])))

-- this is a valuation of the procedure: a value for each global, and those of a frame of it
abbrev pub IsValuationOf : Program → ℕ → Valuation → Type 0
IsValuationOf program procedure valuation = (length valuation.globals ≡ program.globals)
    × AtRoutine (slice_get program.routines procedure) (λ r. length valuation.places ≡ frame_size r)

-- A message to a procedure of the right widths: an entry has a valuation of it; a summary has a valuation of the
-- procedure called, and a value for each global.
abbrev pub IsMessageTo : Program → ℕ → Message → Type 0
IsMessageTo program procedure (entry from entered) = IsValuationOf program procedure entered
IsMessageTo program procedure (summary callee entered exit) = IsValuationOf program callee entered × (length exit.globals ≡ program.globals)

-- each call in a body is of a procedure that is there, with a place for each argument
abbrev pub ArgumentsFit : Program → Type 0
ArgumentsFit program =
    (q s : ℕ) (rest : Code) (es : List (Expression Place)) → IsRestOf (body_of (slice_get program.routines q)) rest →
    called_by rest ≡ Some (s, es) →
    AtRoutine (slice_get program.routines s) (λ r. length es ≤ r.places)

-- The message is one that the procedure took, where lists hold what each procedure took, by its number.
abbrev pub IsTakenBy : List (List Message) → ℕ → Message → Type 0
IsTakenBy takes procedure message = Member message (slice_index_or takes procedure [])
