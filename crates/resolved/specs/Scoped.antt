-- A resolved program that fits its scopes: every variable is a global or a place of its procedure, and
-- every procedure that is called is there, with a place for each argument.
use Rattle.std.specs.Prelude.{ℕ, ◌<◌, ◌≤◌, List, [], ◌∷◌, length, slice_get, IfSome}
use Rattle.std.specs.List.{AllByRecursion}
use Rattle.language.specs.Tree.{Expression, const, var, negation, two, RightSide, any, value, Simple, done, one, choose, loop}
use Rattle.language.specs.Parts.{plain, targets_of, sides_of, test_of, arguments_of, callee_of}
use Rattle.language.specs.Value.{Place, global, local}
use Rattle.language.specs.Rest.{Label, Code}
use Rattle.language.specs.Step.{Routine, Program, AtRoutine}

-- the place is one of this number of globals, or of the procedure's own places
abbrev pub PlaceInScope : ℕ → ℕ → Place → Type 0
PlaceInScope globals own (global i) = i < globals
PlaceInScope globals own (local i) = i < own

-- each variable of the expression is in scope
abbrev pub InScope : ℕ → ℕ → Expression Place → Type 0
InScope globals own (const truth) = Unit {0}
InScope globals own (var variable) = PlaceInScope globals own variable
InScope globals own (negation expression) = InScope globals own expression
InScope globals own (two operator left right) = InScope globals own left × InScope globals own right

-- each variable of the expressions is in scope
abbrev pub AreInScope : ℕ → ℕ → List (Expression Place) → Type 0
AreInScope globals own [] = Unit {0}
AreInScope globals own (expression ∷ expressions) = InScope globals own expression × AreInScope globals own expressions

-- each variable of the right side is in scope
abbrev pub SideInScope : ℕ → ℕ → RightSide Place → Type 0
SideInScope globals own any = Unit {0}
SideInScope globals own (value expression) = InScope globals own expression

-- each variable of the right sides is in scope
abbrev pub SidesInScope : ℕ → ℕ → List (RightSide Place) → Type 0
SidesInScope globals own [] = Unit {0}
SidesInScope globals own (side ∷ sides) = SideInScope globals own side × SidesInScope globals own sides

-- each of the places is in scope
abbrev pub PlacesInScope : ℕ → ℕ → List Place → Type 0
PlacesInScope globals own [] = Unit {0}
PlacesInScope globals own (x ∷ xs) = PlaceInScope globals own x × PlacesInScope globals own xs

-- The variables of a statement that holds no others are in scope, and the procedure that it calls is there, with a
-- place for each argument.
pub record SimpleInScope (routines : List Routine) (globals own : ℕ) (statement : Simple Place ℕ Label) : Type 0 where
  pub targets : PlacesInScope globals own (targets_of (plain statement))
  pub sides : SidesInScope globals own (sides_of (plain statement))
  pub test : IfSome (test_of (plain statement)) (SideInScope globals own)
  pub arguments : AreInScope globals own (arguments_of (plain statement))
  pub callee : IfSome (callee_of (plain statement))
      (λ q. AtRoutine (slice_get routines q) (λ r. length (arguments_of (plain statement)) ≤ r.places))

-- each statement that holds no others has the one property, each right side of an `if` or `while` the other
abbrev pub Throughout : (Simple Place ℕ Label → Type 0) → (RightSide Place → Type 0) → Code → Type 0
Throughout S R done = Unit {0}
Throughout S R (one mark statement rest) = S statement × Throughout S R rest
Throughout S R (choose mark side if_true if_false rest) = R side × Throughout S R if_true × Throughout S R if_false × Throughout S R rest
Throughout S R (loop mark side body rest) = R side × Throughout S R body × Throughout S R rest

-- each thread starts in a procedure that is there
abbrev pub EachThread : List Routine → List ℕ → Type 0
EachThread routines threads = AllByRecursion (λ number. AtRoutine (slice_get routines number) (λ routine. Unit {0})) threads

-- every statement of the procedure is in scope
abbrev pub RoutineInScope : List Routine → ℕ → Routine → Type 0
RoutineInScope routines globals routine =
    Throughout (SimpleInScope routines globals routine.places) (SideInScope globals routine.places) routine.body

-- the program fits its scopes, and each thread starts in a procedure that is there
pub record FitsScopes (program : Program) : Type 0 where
  pub routines : AllByRecursion (RoutineInScope program.routines program.globals) program.routines
  pub threads : EachThread program.routines program.threads
