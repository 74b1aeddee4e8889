use Rattle.flow_graph.proofs.ReachLemmas.{sent_follow}
use Rattle.flow_graph.proofs.laws.messages_of_all_that_is_sent_follow.Goals as goal

pub returns : goal.returns
returns g c = λ q graph ks ts sent all each. sent_follow graph ks ts all q sent each
