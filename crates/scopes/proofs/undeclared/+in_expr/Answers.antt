use Rattle.std.proofs.Common.{◌++◌, ◌∙◌, ap, sym}
use Rattle.checked.specs.Faults.{AnyOf, IsUnknown}
use Rattle.resolved.specs.Statements.{lent, variables_of}
use Rattle.scopes.proofs.Found.{moved, in_both_of}
use Rattle.trees.specs.Trees.{expr_of}
use Rattle.trees.proofs.Folds.{expr_of-Not, expr_of-Two}
use Rattle.scopes.proofs.undeclared.+in_expr.Goals as goal

pub returns-in-Not : goal.returns-in-Not
returns-in-Not g t c =
    moved (λ l n. AnyOf (λ x. IsUnknown (lent c.args.known.now.names.items) n x) l) _ _ c.in_expr.result
    (ap (λ e. variables_of (expr_of e)) c.in-Not.is ∙ ap variables_of (expr_of-Not _)
    ∙ ap (λ e. variables_of (expr_of e)) (sym c.deref.ensures)) c.in_expr.ensures

pub returns-in-Two : goal.returns-in-Two
returns-in-Two g t c =
    in_both_of
    (λ x n. IsUnknown (lent c.args.known.now.names.items) n x) _ _ _ c.in_expr-first.result c.in_expr-second.result c.earlier.result
    c.earlier.ensures
    (ap (λ e. variables_of (expr_of e)) c.in-Two.is ∙ ap variables_of (expr_of-Two _ _ _)
    ∙ ap (λ e. variables_of (expr_of e) ++ variables_of (expr_of c.in-Two.right.value)) (sym c.deref-in-Two.ensures)
    ∙ ap (λ e. variables_of (expr_of c.deref-in-Two.result.now) ++ variables_of (expr_of e)) (sym c.deref-in-Two-2.ensures))
    c.in_expr-first.ensures c.in_expr-second.ensures
