use Rattle.std.proofs.Common.{ℕ, Option, Some, inl, inr, ap, option_map}
use Rattle.language.specs.Tree.{Name, Expression}
use Rattle.trees.specs.Trees.{expr_of}
use Rattle.resolved.specs.Statements.{lent, variables_of}
use Rattle.checked.specs.Faults.{AnyOf, AnyUnknown}
use Rattle.scopes.specs.Find.{as_list}
use Rattle.scopes.proofs.Found.{same, moved}
use Rattle.scopes.proofs.undeclared.in_given.Goals as goal

pub returns : goal.returns
returns g c =
    let known = lent c.args.known.now.names.items in
    moved (λ (o : Option (Expression Name)) (n : ℕ). AnyOf (λ e. AnyUnknown known (variables_of e) n) (as_list o))
    (Some (expr_of c.in_ok-given.field-0.now)) _ _ (ap (option_map (λ r. expr_of r.now)) c.in_ok-given.was)
    (same c.in_expr.result (λ n h. inl h) (λ n h. elim h [ inl q ↦ q | inr q ↦ absurd q ]) c.in_expr.ensures)
