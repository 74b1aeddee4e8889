use Rattle.language.specs.Lists.{Member}
use Rattle.flow_graph.proofs.DueLemmas.{edges_reached}
use Rattle.flow_graph.proofs.laws.by_due_messages_a_graph_reaches_path_edges.Goals as goal

pub returns : goal.returns
returns g c = λ p q graph ks fit is due. edges_reached p fit q graph is (λ k. Member k ks) due
