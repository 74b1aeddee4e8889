use Rattle.resolved.proofs.Sequences.{resolving_fit}
use Rattle.resolved.proofs.calls_of_resolving_trees_fit.Goals as goal

pub returns : goal.returns
returns c = resolving_fit
