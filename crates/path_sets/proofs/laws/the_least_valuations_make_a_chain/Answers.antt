use Rattle.path_sets.proofs.ChainLemmas.{least_nodes}
use Rattle.path_sets.proofs.laws.the_least_valuations_make_a_chain.Goals as goal

pub returns : goal.returns
returns c = λ width k within. least_nodes k width within
