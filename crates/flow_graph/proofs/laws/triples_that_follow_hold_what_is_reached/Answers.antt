use Rattle.flow_graph.proofs.ReachLemmas.{held}
use Rattle.flow_graph.proofs.laws.triples_that_follow_hold_what_is_reached.Goals as goal

pub returns : goal.returns
returns g c = held
