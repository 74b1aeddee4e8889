use Rattle.scopes.proofs.Found.{both_of}
use Rattle.scopes.proofs.counts.miscounted.Goals as goal

pub returns : goal.returns
returns g c =
    both_of c.sides_miscounted-first.result c.arguments_miscounted-second.result c.earlier.result c.earlier.ensures
    c.sides_miscounted-first.ensures c.arguments_miscounted-second.ensures
