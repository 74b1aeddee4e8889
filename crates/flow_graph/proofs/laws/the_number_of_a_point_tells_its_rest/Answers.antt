use Rattle.flow_graph.proofs.StepLemmas.{rest_in_order_told}
use Rattle.flow_graph.proofs.laws.the_number_of_a_point_tells_its_rest.Goals as goal

pub returns : goal.returns
returns c = λ p q r s order. rest_in_order_told p order q r s
