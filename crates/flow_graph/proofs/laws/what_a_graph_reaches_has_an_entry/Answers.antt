use Rattle.language.specs.Lists.{Member}
use Rattle.flow_graph.proofs.ReachLemmas.{reaches_entry}
use Rattle.flow_graph.proofs.laws.what_a_graph_reaches_has_an_entry.Goals as goal

pub returns : goal.returns
returns g c = λ graph ks. reaches_entry graph (λ k. Member k ks)
