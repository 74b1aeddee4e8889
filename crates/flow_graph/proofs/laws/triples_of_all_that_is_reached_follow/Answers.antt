use Rattle.flow_graph.proofs.ReachLemmas.{reached_follow}
use Rattle.flow_graph.proofs.laws.triples_of_all_that_is_reached_follow.Goals as goal

pub returns : goal.returns
returns g c = reached_follow
