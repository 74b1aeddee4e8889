use Rattle.flow_graph.proofs.Pairs.{edge_told}
use Rattle.flow_graph.proofs.laws.its_numbers_tell_a_path_edge.Goals as goal

pub returns : goal.returns
returns c = λ p q x y r fit order. edge_told p fit order q x y r
