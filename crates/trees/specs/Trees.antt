-- The tree of `language` that each public tree stands for.
use Rattle.std.specs.Prelude.{List, [], ◌∷◌, map, option_map}
use Rattle.std.specs.String.{string_bytes}
use Rattle.language.specs.Tree as tree
use Rattle.language.specs.Tree.{Operator, implies, or, xor, and, equal, differs, Expression, const, var, negation, two, RightSide, any}
use Rattle.language.specs.Tree.{value, Simple, skip, assign, assert, assume, goto, leave, call, call_for, leave_with, Mark, Block, done}
use Rattle.language.specs.Tree.{one, choose, loop}
use Rattle.trees.specs.declared.tree.Name.{Name}
use Rattle.trees.specs.declared.tree.Op.{Op}
use Rattle.trees.specs.declared.tree.Op.TheVariants as op
use Rattle.trees.specs.declared.tree.Expr.{Expr}
use Rattle.trees.specs.declared.tree.Expr.TheOpen.{Expr-F}
use Rattle.trees.specs.declared.tree.Expr.TheOpen as expr
use Rattle.trees.specs.declared.tree.Expr.TheFolds.{fold-Expr}
use Rattle.trees.specs.declared.tree.Rhs.{Rhs}
use Rattle.trees.specs.declared.tree.Rhs.TheVariants as rhs
use Rattle.trees.specs.declared.tree.Core.{Core}
use Rattle.trees.specs.declared.tree.Stmt.{Stmt}
use Rattle.trees.specs.declared.tree.Core.TheOpen.{Core-F, Stmt-F}
use Rattle.trees.specs.declared.tree.Core.TheOpen as core
use Rattle.trees.specs.declared.tree.Core.TheFolds.{fold-Core, fold-Stmt}
use Rattle.trees.specs.declared.tree.Proc.{Proc}
use Rattle.trees.specs.declared.tree.Thread.{Thread}
use Rattle.trees.specs.declared.tree.Program.{Program}

-- a name: its bytes, and the offset of the first
abbrev pub name_of : {A : Type 0} → Name A → tree.Name
name_of name = record { text = string_bytes name.text; at = name.at }

-- names, in order
abbrev pub names_of : {A : Type 0} → List (Name A) → List tree.Name
names_of ns = map name_of ns

-- an operator, by its name
abbrev pub operator_of : Op → Operator
operator_of op.Implies = implies
operator_of op.Or = or
operator_of op.Xor = xor
operator_of op.And = and
operator_of op.Equal = equal
operator_of op.Differs = differs

-- one level of an expression, whose operands are trees already
abbrev pub expr_step : {A : Type 0} → Expr-F A (Expression tree.Name) → Expression tree.Name
expr_step (expr.Const truth) = const truth
expr_step (expr.Var variable) = var (name_of variable)
expr_step (expr.Not operand) = negation operand.value
expr_step (expr.Two operator left right) = two (operator_of operator) left.value right.value

-- an expression
abbrev pub expr_of : {A : Type 0} → Expr A → Expression tree.Name
expr_of {A} = fold-Expr A (Expression tree.Name) expr_step

-- expressions, in order
abbrev pub exprs_of : {A : Type 0} → List (Expr A) → List (Expression tree.Name)
exprs_of es = map expr_of es

-- a right side
abbrev pub rhs_of : {A : Type 0} → Rhs A → RightSide tree.Name
rhs_of rhs.Any = any
rhs_of (rhs.Value expression) = value (expr_of expression)

-- right sides, in order
abbrev pub rhss_of : {A : Type 0} → List (Rhs A) → List (RightSide tree.Name)
rhss_of rs = map rhs_of rs

-- What a statement does: one that holds no others, an `if` with its right side and its two branches, or a
-- `while` with its right side and its body.
pub data Deed : Type 0 where
  simple : Simple tree.Name tree.Name tree.Name → Deed
  branch : RightSide tree.Name → Block tree.Name tree.Name tree.Name → Block tree.Name tree.Name tree.Name → Deed
  repeat : RightSide tree.Name → Block tree.Name tree.Name tree.Name → Deed

-- One statement, without those after it.
pub record Item : Type 0 where
  pub mark : Mark tree.Name
  pub deed : Deed

-- what a statement does, with its mark, put in front of the statements after it
abbrev pub marked_before : Mark tree.Name → Deed → Block tree.Name tree.Name tree.Name → Block tree.Name tree.Name tree.Name
marked_before mark (simple statement) rest = one mark statement rest
marked_before mark (branch side if_true if_false) rest = choose mark side if_true if_false rest
marked_before mark (repeat side body) rest = loop mark side body rest

-- the statement, put in front of those after it
abbrev pub before : Item → Block tree.Name tree.Name tree.Name → Block tree.Name tree.Name tree.Name
before item rest = marked_before item.mark item.deed rest

-- statements, in order, put in front of those after them
abbrev pub all_before : List Item → Block tree.Name tree.Name tree.Name → Block tree.Name tree.Name tree.Name
all_before [] rest = rest
all_before (item ∷ items) rest = before item (all_before items rest)

-- one level of what a statement does: the statements that it holds are trees already
abbrev pub core_step : {A : Type 0} → Core-F A Deed Item → Deed
core_step core.Skip = simple skip
core_step (core.Assign xs rs) = simple (assign (names_of xs.items) (rhss_of rs.items))
core_step (core.If side if_true if_false) = branch (rhs_of side) (all_before if_true.items done) (all_before if_false.items done)
core_step (core.While side body) = repeat (rhs_of side) (all_before body.items done)
core_step (core.Assert side) = simple (assert (rhs_of side))
core_step (core.Assume side) = simple (assume (rhs_of side))
core_step (core.Goto label) = simple (goto (name_of label))
core_step core.Return = simple leave
core_step (core.Call callee es) = simple (call (name_of callee) (exprs_of es.items))
core_step (core.CallTo x callee es) = simple (call_for (name_of x) (name_of callee) (exprs_of es.items))
core_step (core.Give expression) = simple (leave_with (expr_of expression))

-- one level of a statement: its mark has its label, if it has one, and its offset
abbrev pub stmt_step : {A : Type 0} → Stmt-F A Deed Item → Item
stmt_step statement = record { mark = record { label = option_map name_of statement.label; at = statement.at }; deed = statement.core }

-- what a statement does
abbrev pub deed_of : {A : Type 0} → Core A → Deed
deed_of {A} = fold-Core A Deed Item core_step stmt_step

-- a statement
abbrev pub item_of : {A : Type 0} → Stmt A → Item
item_of {A} = fold-Stmt A Deed Item core_step stmt_step

-- statements, in order
abbrev pub items_of : {A : Type 0} → List (Stmt A) → List Item
items_of ss = map item_of ss

-- a list of statements, as the block of them
abbrev pub block_of : {A : Type 0} → List (Stmt A) → Block tree.Name tree.Name tree.Name
block_of ss = all_before (items_of ss) done

-- a procedure
abbrev pub proc_of : {A : Type 0} → Proc A → tree.Procedure
proc_of procedure = record {
  name = name_of procedure.name;
  formals = names_of procedure.formals.items;
  locals = names_of procedure.locals.items;
  body = block_of procedure.body.items;
}

-- procedures, in order
abbrev pub procs_of : {A : Type 0} → List (Proc A) → List tree.Procedure
procs_of ps = map proc_of ps

-- a thread line
abbrev pub thread_of : {A : Type 0} → Thread A → tree.ThreadLine
thread_of thread = record { at = thread.at; name = name_of thread.name }

-- thread lines, in order
abbrev pub threads_of : {A : Type 0} → List (Thread A) → List tree.ThreadLine
threads_of ts = map thread_of ts

-- a program
abbrev pub tree_of : {A : Type 0} → Program A → tree.Tree
tree_of program = record {
  globals = names_of program.globals.items;
  procedures = procs_of program.procs.items;
  threads = threads_of program.threads.items;
}
