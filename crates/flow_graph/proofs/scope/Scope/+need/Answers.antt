-- What an expression needs, from what its operands need.
use Rattle.std.proofs.Common.{◌==◌, ◌+◌, min, max, cond, sym, ◌∙◌, ap}
use Rattle.trees.specs.Trees.{name_of, expr_of}
use Rattle.trees.proofs.Folds.{expr_of-Const, expr_of-Var, expr_of-Not, expr_of-Two}
use Rattle.flow_graph.specs.Located.{located, bit_of_name}
use Rattle.flow_graph.specs.Postfix.{need}
use Rattle.flow_graph.specs.Views.{scope_seen}
use Rattle.flow_graph.proofs.Codes.{need_read}
use Rattle.flow_graph.proofs.scope.Scope.+need.Goals as goal

pub returns-in-Const : goal.returns-in-Const
returns-in-Const g t c =
    ap (λ e. need (located (scope_seen c.args.self.now) e))
    (sym (ap expr_of c.in-Const.is ∙ expr_of-Const g.row.N.Denot c.in-Const.field-0))

pub returns-in-Var : goal.returns-in-Var
returns-in-Var g t c =
    let s = scope_seen c.args.self.now in
    sym (need_read (bit_of_name s (name_of c.in-Var.field-0)))
    ∙ ap (λ e. need (located s e)) (sym (ap expr_of c.in-Var.is ∙ expr_of-Var c.in-Var.field-0))

pub returns-in-Not : goal.returns-in-Not
returns-in-Not g t c =
    let s = scope_seen c.args.self.now in
    c.need.ensures
    ∙ ap (λ e. need (located s (expr_of e))) c.deref.ensures
    ∙ ap (λ e. need (located s e)) (sym (ap expr_of c.in-Not.is ∙ expr_of-Not c.in-Not.a))

pub returns-in-Two : goal.returns-in-Two
returns-in-Two g t c =
    let s = scope_seen c.args.self.now in
    let left = c.need-in-Two.ensures ∙ ap (λ e. need (located s (expr_of e))) c.deref-in-Two.ensures in
    let right = c.need-in-Two-2.ensures ∙ ap (λ e. need (located s (expr_of e))) c.deref-in-Two-2.ensures in
    c.joint_need.ensures
    ∙ (λ i. cond (left i == right i) (min (left i + 1) 4294967295) (max (left i) (right i)))
    ∙ ap (λ e. need (located s e)) (sym (ap expr_of c.in-Two.is ∙ expr_of-Two c.in-Two.field-0 c.in-Two.a c.in-Two.b))
