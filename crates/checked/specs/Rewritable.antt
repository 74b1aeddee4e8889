-- What the rewriting theorem over names asks of a text's tree. A program without scope faults has it.
use Rattle.std.specs.Prelude.{◌≡◌, ℕ, ◌≤◌, Bool, true, false, List, [], ◌∷◌, ◌++◌, ◌&&◌, ◌||◌, Option, Some, None}
use Rattle.std.specs.Prelude.{length, map, nat_eq, slice_get, IfSome}
use Rattle.std.specs.List.{AllByRecursion}
use Rattle.language.specs.Tree.{Name, Expression, const, var, negation, two, RightSide, any, value, Simple, Block, done}
use Rattle.language.specs.Tree.{one, choose, loop, Procedure, ThreadLine, Tree}
use Rattle.language.specs.Parts.{plain, targets_of, sides_of, test_of, arguments_of, callee_of}
use Rattle.language.specs.Resolve.{is_declared, number_of, Scope, scope_of}

-- the text begins with an underscore
abbrev pub begins_low : List ℕ → Bool
begins_low [] = false
begins_low (byte ∷ text) = nat_eq byte 95

-- the text has two underscores in a row
abbrev pub has_double : List ℕ → Bool
has_double [] = false
has_double (byte ∷ text) = (nat_eq byte 95 && begins_low text) || has_double text

-- no name has two underscores in a row
abbrev pub AreFree : List Name → Type 0
AreFree [] = Unit {0}
AreFree (x ∷ xs) = (has_double x.text ≡ false) × AreFree xs

-- no two names are the same
abbrev pub AreDistinct : List Name → Type 0
AreDistinct [] = Unit {0}
AreDistinct (x ∷ xs) = (is_declared x.text xs ≡ false) × AreDistinct xs

-- the variable is a formal, a local or a global
abbrev pub Declared : Scope → Name → Type 0
Declared scope name = is_declared name.text scope.locals ≡ false → is_declared name.text scope.globals ≡ true

-- so is each of the variables
abbrev pub AllDeclared : Scope → List Name → Type 0
AllDeclared scope [] = Unit {0}
AllDeclared scope (x ∷ xs) = Declared scope x × AllDeclared scope xs

-- each variable of the expression is declared
abbrev pub ExpressionDeclared : Scope → Expression Name → Type 0
ExpressionDeclared scope (const truth) = Unit {0}
ExpressionDeclared scope (var variable) = Declared scope variable
ExpressionDeclared scope (negation expression) = ExpressionDeclared scope expression
ExpressionDeclared scope (two operator left right) = ExpressionDeclared scope left × ExpressionDeclared scope right

-- each variable of the expressions is declared
abbrev pub ExpressionsDeclared : Scope → List (Expression Name) → Type 0
ExpressionsDeclared scope [] = Unit {0}
ExpressionsDeclared scope (expression ∷ expressions) = ExpressionDeclared scope expression × ExpressionsDeclared scope expressions

-- each variable of the right side is declared
abbrev pub SideDeclared : Scope → RightSide Name → Type 0
SideDeclared scope any = Unit {0}
SideDeclared scope (value expression) = ExpressionDeclared scope expression

-- each variable of the right sides is declared
abbrev pub SidesDeclared : Scope → List (RightSide Name) → Type 0
SidesDeclared scope [] = Unit {0}
SidesDeclared scope (side ∷ sides) = SideDeclared scope side × SidesDeclared scope sides

-- the first procedure of this name is there, and has at least a given number of formals and locals
abbrev pub HasRoom : Option Procedure → ℕ → Type 0
HasRoom None n = ⊥
HasRoom (Some procedure) n = n ≤ length (procedure.formals ++ procedure.locals)

-- The names of a statement are declared, and a call has no more arguments than there are places.
pub record SimpleDeclared (tree : Tree) (scope : Scope) (statement : Simple Name Name Name) : Type 0 where
  pub targets : AllDeclared scope (targets_of (plain statement))
  pub sides : SidesDeclared scope (sides_of (plain statement))
  pub test : IfSome (test_of (plain statement)) (SideDeclared scope)
  pub arguments : ExpressionsDeclared scope (arguments_of (plain statement))
  pub callee : IfSome (callee_of (plain statement)) (λ callee. (is_declared callee.text scope.procedures ≡ true)
      × HasRoom (slice_get tree.procedures (number_of callee.text scope.procedures)) (length (arguments_of (plain statement))))

-- this holds for each statement of the block
abbrev pub BlockDeclared : Tree → Scope → Block Name Name Name → Type 0
BlockDeclared tree scope done = Unit {0}
BlockDeclared tree scope (one mark statement rest) = SimpleDeclared tree scope statement × BlockDeclared tree scope rest
BlockDeclared tree scope (choose mark side if_true if_false rest) = SideDeclared scope side × BlockDeclared tree scope if_true
    × BlockDeclared tree scope if_false × BlockDeclared tree scope rest
BlockDeclared tree scope (loop mark side body rest) = SideDeclared scope side × BlockDeclared tree scope body
    × BlockDeclared tree scope rest

-- the procedure's names are free of two underscores in a row, and all names in it are declared
pub record ProcedureRewritable (tree : Tree) (procedure : Procedure) : Type 0 where
  pub name : has_double procedure.name.text ≡ false
  pub own : AreFree (procedure.formals ++ procedure.locals)
  pub body : BlockDeclared tree (scope_of tree procedure) procedure.body

-- each thread line names one of these procedures
abbrev pub EachLine : List Name → List ThreadLine → Type 0
EachLine ps [] = Unit {0}
EachLine ps (line ∷ lines) = (is_declared line.name.text ps ≡ true) × EachLine ps lines

-- every name is declared, no two globals are the same, and no declared variable or procedure has two
-- underscores in a row
pub record IsRewritable (tree : Tree) : Type 0 where
  pub globals : AreFree tree.globals
  pub distinct : AreDistinct tree.globals
  pub procedures : AllByRecursion (ProcedureRewritable tree) tree.procedures
  pub threads : EachLine (map (λ (p : Procedure). p.name) tree.procedures) tree.threads
