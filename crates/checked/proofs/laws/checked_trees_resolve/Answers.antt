use Rattle.checked.proofs.Resolving.{checked_resolves}
use Rattle.checked.proofs.laws.checked_trees_resolve.Goals as goal

pub returns : goal.returns
returns c = λ t ok. checked_resolves t ok
