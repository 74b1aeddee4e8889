-- The equations of the folds: what each form of an expression or a statement is.
use Rattle.std.proofs.Common.{◌≡◌, Bool, option_map, sym, ◌∙◌, ap}
use Rattle.std.specs.declared.boxed.Box.{Box}
use Rattle.std.specs.declared.vec.Vec.{Vec}
use Rattle.language.specs.Tree as tree
use Rattle.language.specs.Tree.{Expression, const, var, negation, two, skip, assign, assert, assume, goto, leave, call, call_for}
use Rattle.language.specs.Tree.{leave_with}
use Rattle.trees.specs.Trees.{operator_of, expr_step, expr_of, name_of, names_of, exprs_of, rhs_of, rhss_of, Deed, simple, branch, repeat}
use Rattle.trees.specs.Trees.{Item, core_step, stmt_step, item_of, deed_of, block_of}
use Rattle.trees.specs.declared.tree.Name.{Name}
use Rattle.trees.specs.declared.tree.Op.{Op}
use Rattle.trees.specs.declared.tree.Expr.{Expr}
use Rattle.trees.specs.declared.tree.Expr.TheVariants.{Const, rolls-Const, Var, rolls-Var, Not, rolls-Not, Two, rolls-Two}
use Rattle.trees.specs.declared.tree.Expr.TheOpen as open_expr
use Rattle.trees.specs.declared.tree.Rhs.{Rhs}
use Rattle.trees.specs.declared.tree.Stmt.{Stmt}
use Rattle.trees.specs.declared.tree.Core.TheVariants as core
use Rattle.trees.specs.declared.tree.Core.TheVariants.{rolls-Skip, rolls-Return, rolls-Assign, rolls-Assert, rolls-Assume, rolls-Goto}
use Rattle.trees.specs.declared.tree.Core.TheVariants.{rolls-Call, rolls-CallTo, rolls-Give, If, rolls-If, While, rolls-While}
use Rattle.trees.specs.declared.tree.Core.TheOpen as open_core
use Rattle.trees.specs.declared.tree.Core.TheFolds.{fold-roll-Core, fold_out-Stmt}
use Rattle.trees.specs.declared.tree.Expr.TheFolds.{fold-roll-Expr}

pub expr_of-Const : (A : Type 0) (b : Bool) → expr_of {A = A} (Const b) ≡ const b
expr_of-Const A b = ap expr_of (sym (rolls-Const b)) ∙ fold-roll-Expr A (Expression tree.Name) expr_step (open_expr.Const b)

pub expr_of-Var : {A : Type 0} (x : Name A) → expr_of (Var x) ≡ var (name_of x)
expr_of-Var {A} x = ap expr_of (sym (rolls-Var x)) ∙ fold-roll-Expr A (Expression tree.Name) expr_step (open_expr.Var x)

pub expr_of-Not : {A : Type 0} (b : Box (Expr A) A) → expr_of (Not b) ≡ negation (expr_of b.value)
expr_of-Not {A} b = ap expr_of (sym (rolls-Not b)) ∙ fold-roll-Expr A (Expression tree.Name) expr_step (open_expr.Not b)

pub expr_of-Two : {A : Type 0} (o : Op) (a b : Box (Expr A) A)
    → expr_of (Two o a b) ≡ two (operator_of o) (expr_of a.value) (expr_of b.value)
expr_of-Two {A} o a b = ap expr_of (sym (rolls-Two o a b)) ∙ fold-roll-Expr A (Expression tree.Name) expr_step (open_expr.Two o a b)

pub item_is : {A : Type 0} (s : Stmt A)
    → item_of s ≡ record { mark = record { label = option_map name_of s.label; at = s.at }; deed = deed_of s.core }
item_is {A} s = fold_out-Stmt A Deed Item core_step stmt_step s

pub item_deed : {A : Type 0} (s : Stmt A) → (item_of s).deed ≡ deed_of s.core
item_deed s = ap (λ (i : Item). i.deed) (item_is s)

pub deed_of-Skip : (A : Type 0) → deed_of {A = A} core.Skip ≡ simple skip
deed_of-Skip A = ap deed_of (sym rolls-Skip) ∙ fold-roll-Core A Deed Item core_step stmt_step open_core.Skip

pub deed_of-Return : (A : Type 0) → deed_of {A = A} core.Return ≡ simple leave
deed_of-Return A = ap deed_of (sym rolls-Return) ∙ fold-roll-Core A Deed Item core_step stmt_step open_core.Return

pub deed_of-Assign : {A : Type 0} (xs : Vec (Name A) A) (rs : Vec (Rhs A) A)
    → deed_of (core.Assign xs rs) ≡ simple (assign (names_of xs.items) (rhss_of rs.items))
deed_of-Assign {A} xs rs = ap deed_of (sym (rolls-Assign xs rs)) ∙ fold-roll-Core A Deed Item core_step stmt_step (open_core.Assign xs rs)

pub deed_of-Assert : {A : Type 0} (r : Rhs A) → deed_of (core.Assert r) ≡ simple (assert (rhs_of r))
deed_of-Assert {A} r = ap deed_of (sym (rolls-Assert r)) ∙ fold-roll-Core A Deed Item core_step stmt_step (open_core.Assert r)

pub deed_of-Assume : {A : Type 0} (r : Rhs A) → deed_of (core.Assume r) ≡ simple (assume (rhs_of r))
deed_of-Assume {A} r = ap deed_of (sym (rolls-Assume r)) ∙ fold-roll-Core A Deed Item core_step stmt_step (open_core.Assume r)

pub deed_of-Goto : {A : Type 0} (x : Name A) → deed_of (core.Goto x) ≡ simple (goto (name_of x))
deed_of-Goto {A} x = ap deed_of (sym (rolls-Goto x)) ∙ fold-roll-Core A Deed Item core_step stmt_step (open_core.Goto x)

pub deed_of-Call : {A : Type 0} (p : Name A) (es : Vec (Expr A) A)
    → deed_of (core.Call p es) ≡ simple (call (name_of p) (exprs_of es.items))
deed_of-Call {A} p es = ap deed_of (sym (rolls-Call p es)) ∙ fold-roll-Core A Deed Item core_step stmt_step (open_core.Call p es)

pub deed_of-CallTo : {A : Type 0} (x p : Name A) (es : Vec (Expr A) A)
    → deed_of (core.CallTo x p es) ≡ simple (call_for (name_of x) (name_of p) (exprs_of es.items))
deed_of-CallTo {A} x p es = ap deed_of (sym (rolls-CallTo x p es))
    ∙ fold-roll-Core A Deed Item core_step stmt_step (open_core.CallTo x p es)

pub deed_of-Give : {A : Type 0} (e : Expr A) → deed_of (core.Give e) ≡ simple (leave_with (expr_of e))
deed_of-Give {A} e = ap deed_of (sym (rolls-Give e)) ∙ fold-roll-Core A Deed Item core_step stmt_step (open_core.Give e)

pub deed_of-If : {A : Type 0} (r : Rhs A) (a b : Vec (Stmt A) A)
    → deed_of (If r a b) ≡ branch (rhs_of r) (block_of a.items) (block_of b.items)
deed_of-If {A} r a b = ap deed_of (sym (rolls-If r a b)) ∙ fold-roll-Core A Deed Item core_step stmt_step (open_core.If r a b)

pub deed_of-While : {A : Type 0} (r : Rhs A) (a : Vec (Stmt A) A) → deed_of (While r a) ≡ repeat (rhs_of r) (block_of a.items)
deed_of-While {A} r a = ap deed_of (sym (rolls-While r a)) ∙ fold-roll-Core A Deed Item core_step stmt_step (open_core.While r a)
