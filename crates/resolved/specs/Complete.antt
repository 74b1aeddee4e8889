-- A resolved program in which no step lacks what it needs.
use Rattle.std.specs.Prelude.{◌≡◌, ℕ, true, List, IfSome}
use Rattle.std.specs.List.{AllByRecursion}
use Rattle.language.specs.Tree.{Simple, done}
use Rattle.language.specs.Parts.{plain, jump_of, gives, HasAllSides}
use Rattle.language.specs.Value.{Place}
use Rattle.language.specs.Rest.{Label, rest_from}
use Rattle.language.specs.Step.{Routine, Program, AtRest}
use Rattle.resolved.specs.Scoped.{SimpleInScope, SideInScope, Throughout, EachThread}

-- In a procedure, among these and this number of globals: the statement is in scope, each target has its right side,
-- there is a rest from the label of a goto on, and only a procedure that gives a value returns one.
pub record SimpleComplete (routines : List Routine) (globals : ℕ) (own : Routine) (statement : Simple Place ℕ Label) : Type 0 where
  pub scope : SimpleInScope routines globals own.places statement
  pub sides : HasAllSides (plain statement)
  pub jump : IfSome (jump_of (plain statement)) (λ label. AtRest (rest_from label own.body done) (λ rest. Unit {0}))
  pub gives : gives (plain statement) ≡ true → own.gives ≡ true

-- this holds for every statement of the procedure
abbrev pub RoutineComplete : List Routine → ℕ → Routine → Type 0
RoutineComplete routines globals own = Throughout (SimpleComplete routines globals own) (SideInScope globals own.places) own.body

-- this holds for every procedure, and each thread starts in a procedure that is there
pub record IsComplete (program : Program) : Type 0 where
  pub routines : AllByRecursion (RoutineComplete program.routines program.globals) program.routines
  pub threads : EachThread program.routines program.threads
