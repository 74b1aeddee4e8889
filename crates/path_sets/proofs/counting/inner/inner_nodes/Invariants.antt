use Rattle.path_sets.proofs.ReachedLemmas.{Marked}
use Rattle.path_sets.proofs.counting.inner.inner_nodes.Given as goal

abbrev pub invariant-loop-at : goal.invariant-loop-at
invariant-loop-at g l = Marked l.nodes.kept.keys l.nodes.down l.nodes.ordered l.number l.reached.items l.at l.count

abbrev pub decreases-loop-at : goal.decreases-loop-at
decreases-loop-at g l = l.at
