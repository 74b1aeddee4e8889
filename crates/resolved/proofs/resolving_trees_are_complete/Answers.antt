use Rattle.resolved.proofs.Completing.{resolving_complete}
use Rattle.resolved.proofs.resolving_trees_are_complete.Goals as goal

pub returns : goal.returns
returns c = resolving_complete
