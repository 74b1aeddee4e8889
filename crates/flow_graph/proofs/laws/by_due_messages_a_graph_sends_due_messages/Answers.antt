use Rattle.language.specs.Lists.{Member}
use Rattle.flow_graph.proofs.DueLemmas.{due_sent}
use Rattle.flow_graph.proofs.laws.by_due_messages_a_graph_sends_due_messages.Goals as goal

pub returns : goal.returns
returns g c = λ p q graph ks fit order is due. due_sent p fit q graph is (λ k. Member k ks) due order
