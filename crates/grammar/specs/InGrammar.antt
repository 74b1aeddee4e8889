-- The trees of the grammar.
use Rattle.std.specs.Prelude.{ℕ, ◌<◌, List, length, Option, Some, None}
use Rattle.std.specs.List.{AllByRecursion}
use Rattle.language.specs.Tree.{Name, Expression, const, var, negation, two, RightSide, any, value, Simple, skip, assign, assert, assume}
use Rattle.language.specs.Tree.{goto, leave, leave_with, call, call_for, Block, done, one, choose, loop, Procedure, ThreadLine, Tree}
use Rattle.tokens.specs.Spelling.{IsNameWord}
use Rattle.grammar.specs.Grammar.{IsSome}

-- A name is made of word bytes, begins with no digit, and is not a keyword.
abbrev pub IsId : Name → Type 0
IsId name = IsNameWord name.text

-- Each name is an id.
abbrev pub AreIds : List Name → Type 0
AreIds ns = AllByRecursion IsId ns

-- The names of an expression are ids.
abbrev pub ExpressionInGrammar : Expression Name → Type 0
ExpressionInGrammar (const truth) = Unit {0}
ExpressionInGrammar (var variable) = IsId variable
ExpressionInGrammar (negation expression) = ExpressionInGrammar expression
ExpressionInGrammar (two operator left right) = ExpressionInGrammar left × ExpressionInGrammar right

-- The names of a right side are ids.
abbrev pub SideInGrammar : RightSide Name → Type 0
SideInGrammar any = Unit {0}
SideInGrammar (value expression) = ExpressionInGrammar expression

-- The names of a statement are ids, and an assignment has a target and a right side at least.
abbrev pub SimpleInGrammar : Simple Name Name Name → Type 0
SimpleInGrammar skip = Unit {0}
SimpleInGrammar (assign xs rs) = (0 < length xs) × AreIds xs × (0 < length rs) × AllByRecursion SideInGrammar rs
SimpleInGrammar (assert side) = SideInGrammar side
SimpleInGrammar (assume side) = SideInGrammar side
SimpleInGrammar (goto label) = IsId label
SimpleInGrammar leave = Unit {0}
SimpleInGrammar (leave_with expression) = ExpressionInGrammar expression
SimpleInGrammar (call callee es) = IsId callee × AllByRecursion ExpressionInGrammar es
SimpleInGrammar (call_for target callee es) = IsId target × IsId callee × AllByRecursion ExpressionInGrammar es

-- A label is an id.
abbrev pub LabelInGrammar : Option Name → Type 0
LabelInGrammar None = Unit {0}
LabelInGrammar (Some label) = IsId label

-- The labels and the statements of a block are of the grammar, and a branch of an `if` and the body of a `while` have a
-- statement at least.
abbrev pub BlockInGrammar : Block Name Name Name → Type 0
BlockInGrammar done = Unit {0}
BlockInGrammar (one mark statement rest) = LabelInGrammar mark.label × SimpleInGrammar statement × BlockInGrammar rest
BlockInGrammar (choose mark side if_true if_false rest) = LabelInGrammar mark.label × SideInGrammar side × IsSome if_true
    × BlockInGrammar if_true × IsSome if_false × BlockInGrammar if_false
    × BlockInGrammar rest
BlockInGrammar (loop mark side body rest) = LabelInGrammar mark.label × SideInGrammar side × IsSome body × BlockInGrammar body
    × BlockInGrammar rest

-- The names of a procedure are ids, and its body has a statement at least.
pub record ProcedureInGrammar (procedure : Procedure) : Type 0 where
  pub name : IsId procedure.name
  pub formals : AreIds procedure.formals
  pub locals : AreIds procedure.locals
  pub some : IsSome procedure.body
  pub body : BlockInGrammar procedure.body

-- A thread line names an id.
abbrev pub ThreadInGrammar : ThreadLine → Type 0
ThreadInGrammar line = IsId line.name

-- A tree is one of the grammar if its names are ids, it has a procedure and a thread line at least, and its parts
-- are of the grammar.
pub record InGrammar (tree : Tree) : Type 0 where
  pub globals : AreIds tree.globals
  pub some_procedure : 0 < length tree.procedures
  pub procedures : AllByRecursion ProcedureInGrammar tree.procedures
  pub some_thread : 0 < length tree.threads
  pub threads : AllByRecursion ThreadInGrammar tree.threads
