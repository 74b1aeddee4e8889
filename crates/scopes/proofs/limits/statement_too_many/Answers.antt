use Rattle.resolved.specs.Statements.{statement_of}
use Rattle.checked.specs.Limits.{most_statements}
use Rattle.scopes.proofs.Heads.{at_is}
use Rattle.scopes.proofs.Positions.{placed, unplaced}
use Rattle.scopes.proofs.limits.statement_too_many.Goals as goal

pub returns-in-Some : goal.returns-in-Some
returns-in-Some g c =
    placed (λ r. statement_of r.now)
    (λ s. s.mark.at) c.args.stmts.now most_statements c.in-Some.stmt.now c.in-Some.stmt.now.now.at c.in-Some.ensures.lookup.3.0
    c.in-Some.ensures.lookup.1 (at_is c.in-Some.stmt.now.now)

pub returns-in-None : goal.returns-in-None
returns-in-None g c = unplaced (λ r. statement_of r.now) (λ s. s.mark.at) c.args.stmts.now most_statements c.in-None.ensures.lookup.3
