use Rattle.language.specs.Lists.{Member}
use Rattle.flow_graph.proofs.ReachLemmas.{reaches_wide}
use Rattle.flow_graph.proofs.laws.what_a_graph_reaches_has_its_widths.Goals as goal

pub returns : goal.returns
returns g c = λ p q graph ks fit is wide. reaches_wide p fit q graph is (λ k. Member k ks) wide
