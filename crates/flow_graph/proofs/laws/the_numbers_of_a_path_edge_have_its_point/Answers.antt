use Rattle.flow_graph.proofs.Pairs.{edge_numbers}
use Rattle.flow_graph.proofs.laws.the_numbers_of_a_path_edge_have_its_point.Goals as goal

pub returns : goal.returns
returns c = edge_numbers
