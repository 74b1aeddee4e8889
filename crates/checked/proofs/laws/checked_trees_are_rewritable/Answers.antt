use Rattle.checked.proofs.Rewriting.{checked_rewritable}
use Rattle.checked.proofs.laws.checked_trees_are_rewritable.Goals as goal

pub returns : goal.returns
returns c = λ t ok. checked_rewritable t ok
