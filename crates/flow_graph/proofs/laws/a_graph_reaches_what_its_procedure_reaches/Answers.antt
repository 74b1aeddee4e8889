use Rattle.std.proofs.Common.{map}
use Rattle.language.specs.Lists.{Member}
use Rattle.flow_graph.specs.Numbers.{by_numbers}
use Rattle.flow_graph.proofs.StepLemmas.{reaches_numbers}
use Rattle.language.proofs.Members.{member_map, map_member}
use Rattle.flow_graph.proofs.laws.a_graph_reaches_what_its_procedure_reaches.Goals as goal

pub returns : goal.returns
returns g c = λ p q graph ms fit is right a n v.
    reaches_numbers p q graph is (λ m. Member m ms) (λ k. Member k (map by_numbers ms)) right (member_map by_numbers ms) fit
    (map_member by_numbers ms) a n v
