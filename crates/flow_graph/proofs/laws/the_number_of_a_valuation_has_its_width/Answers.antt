use Rattle.flow_graph.proofs.ReachLemmas.{valuation_small}
use Rattle.flow_graph.proofs.laws.the_number_of_a_valuation_has_its_width.Goals as goal

pub returns : goal.returns
returns c = valuation_small
