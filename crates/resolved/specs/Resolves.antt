-- What the names of a checked tree stand for exists.
use Rattle.std.specs.Prelude.{◌≡◌, ◌<◌, List, [], ◌∷◌, ◌++◌, length, slice_get, IfSome}
use Rattle.std.specs.List.{AllByRecursion}
use Rattle.language.specs.Tree.{Name, done, Procedure, ThreadLine, Tree}
use Rattle.language.specs.Parts.{Head, callee_of, arguments_of, jump_of, HasAllSides}
use Rattle.language.specs.Value.{Place, global, local}
use Rattle.language.specs.Rest.{rest_from}
use Rattle.language.specs.Step.{AtRest}
use Rattle.language.specs.Resolve.{number_of, place_of, scope_of, resolve_block}
use Rattle.resolved.specs.There.{IsThere, names}
use Rattle.resolved.specs.Statements.{Statement, statements_of, used_by}

-- the place is one of the tree's globals, or of the procedure's formals and locals
abbrev pub IsPlaceIn : Tree → Procedure → Place → Type 0
IsPlaceIn tree procedure (global i) = i < length tree.globals
IsPlaceIn tree procedure (local i) = i < length (procedure.formals ++ procedure.locals)

-- a procedure that is called is there, with as many formals as there are arguments; the label of a goto is one of the
-- procedure's, with what is left to run from it on
abbrev pub GoesSomewhere : Tree → Procedure → Head Name Name Name → Type 0
GoesSomewhere tree procedure head =
    IfSome (callee_of head) (λ callee.
    IsThere (slice_get tree.procedures (number_of callee.text (names tree.procedures)))
    (λ r. length r.formals ≡ length (arguments_of head)))
    × IfSome (jump_of head) (λ label.
    AtRest (rest_from label.text (resolve_block (scope_of tree procedure) procedure.body) done) (λ rest. Unit {0}))

-- each variable of the statement has its place, what it calls or goes to is there, and each target has its right side
pub record StatementResolves (tree : Tree) (procedure : Procedure) (statement : Statement) : Type 0 where
  pub variables : AllByRecursion (λ x. IsPlaceIn tree procedure (place_of (scope_of tree procedure) x)) (used_by statement.head)
  pub target : GoesSomewhere tree procedure statement.head
  pub sides : HasAllSides statement.head

-- the procedure that the thread line names is there, and has no formals
abbrev pub StartsThere : Tree → ThreadLine → Type 0
StartsThere tree line =
    IsThere (slice_get tree.procedures (number_of line.name.text (names tree.procedures))) (λ r. length r.formals ≡ 0)

-- resolving never fails: every statement of every procedure resolves, and each thread starts in a procedure that is
-- there and has no formals
pub record Resolves (tree : Tree) : Type 0 where
  pub statements : AllByRecursion (λ (p : Procedure). AllByRecursion (StatementResolves tree p) (statements_of p.body)) tree.procedures
  pub threads : AllByRecursion (StartsThere tree) tree.threads
