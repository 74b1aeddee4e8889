use Rattle.trees.specs.Trees.{rhs_of}
use Rattle.checked.specs.Faults.{AnyOf, IsUnknown}
use Rattle.resolved.specs.Statements.{lent, variables_of_side}
use Rattle.scopes.proofs.Found.{moved}
use Rattle.scopes.proofs.undeclared.in_rhs.Goals as goal

pub returns-in-Value : goal.returns-in-Value
returns-in-Value g c =
    moved
    (λ r n. AnyOf (λ x. IsUnknown (lent c.args.known.now.names.items) n x) (variables_of_side (rhs_of r))) _ _ c.in_expr.result
    c.in-Value.is c.in_expr.ensures
