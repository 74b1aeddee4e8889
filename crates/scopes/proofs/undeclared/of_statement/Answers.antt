use Rattle.scopes.proofs.Found.{both_of}
use Rattle.scopes.proofs.undeclared.of_statement.Goals as goal

pub returns : goal.returns
returns g c =
    both_of c.in_statement-first.result c.in_call-second.result c.earlier.result c.earlier.ensures c.in_statement-first.ensures
    c.in_call-second.ensures
