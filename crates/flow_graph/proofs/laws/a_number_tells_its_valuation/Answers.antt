use Rattle.flow_graph.proofs.StepLemmas.{valuation_told}
use Rattle.flow_graph.proofs.laws.a_number_tells_its_valuation.Goals as goal

pub returns : goal.returns
returns c = valuation_told
