-- The parts of a statement: what can be asked of it, whatever its kind.
use Rattle.std.specs.Prelude.{◌≡◌, Bool, true, false, List, [], ◌∷◌, Option, Some, None, length}
use Rattle.language.specs.Tree.{Expression, RightSide, Simple, assign, assert, assume, goto, call, leave_with, call_for}

-- what a statement does, without the statements that it holds: of an `if` and a `while` its right side
pub data Head (V P L : Type 0) : Type 0 where
  plain : Simple V P L → Head V P L
  tests : RightSide V → Head V P L

-- the statement is an assignment, whose right sides are for its targets one by one
abbrev pub assigns : {V P L : Type 0} → Head V P L → Bool
assigns (plain (assign xs rs)) = true
assigns _ = false

-- the variables that the statement gives values to, in order
abbrev pub targets_of : {V P L : Type 0} → Head V P L → List V
targets_of (plain (assign xs rs)) = xs
targets_of (plain (call_for x callee es)) = x ∷ []
targets_of _ = []

-- the right sides for the targets of an assignment, in order
abbrev pub sides_of : {V P L : Type 0} → Head V P L → List (RightSide V)
sides_of (plain (assign xs rs)) = rs
sides_of _ = []

-- the right side that the statement tests, if it tests one
abbrev pub test_of : {V P L : Type 0} → Head V P L → Option (RightSide V)
test_of (plain (assert side)) = Some side
test_of (plain (assume side)) = Some side
test_of (tests side) = Some side
test_of _ = None

-- the expressions that the statement hands on, in order: the arguments of a call, or the value that is returned
abbrev pub arguments_of : {V P L : Type 0} → Head V P L → List (Expression V)
arguments_of (plain (call callee es)) = es
arguments_of (plain (call_for x callee es)) = es
arguments_of (plain (leave_with e)) = e ∷ []
arguments_of _ = []

-- the procedure that the statement calls, if it calls one
abbrev pub callee_of : {V P L : Type 0} → Head V P L → Option P
callee_of (plain (call callee es)) = Some callee
callee_of (plain (call_for x callee es)) = Some callee
callee_of _ = None

-- the statement returns a value
abbrev pub gives : {V P L : Type 0} → Head V P L → Bool
gives (plain (leave_with e)) = true
gives _ = false

-- the label that the statement jumps to, if it jumps
abbrev pub jump_of : {V P L : Type 0} → Head V P L → Option L
jump_of (plain (goto label)) = Some label
jump_of _ = None

-- an assignment has as many right sides as targets
abbrev pub HasAllSides : {V P L : Type 0} → Head V P L → Type 0
HasAllSides head = assigns head ≡ true → length (targets_of head) ≡ length (sides_of head)
