use Rattle.language.specs.Lists.{Member}
use Rattle.flow_graph.proofs.ReachLemmas.{reaches_more, sends_more}
use Rattle.flow_graph.proofs.laws.more_messages_lead_a_graph_further.Goals as goal

pub returns : goal.returns
returns g c = λ q graph ks js more. (
  reaches_more graph (λ k. Member k ks) (λ k. Member k js) more,
  sends_more graph (λ k. Member k ks) (λ k. Member k js) more q,
)
