use Rattle.flow_graph.proofs.ReachLemmas.{held_sent}
use Rattle.flow_graph.proofs.laws.messages_that_follow_hold_what_is_sent.Goals as goal

pub returns : goal.returns
returns g c = λ q graph ks ts sent begins goes comes asked told. held_sent graph ks ts begins goes comes q sent asked told
