use Rattle.language.proofs.Gathered.{edge_point}
use Rattle.language.proofs.messages.a_path_edge_has_a_rest_at_its_point.Goals as goal

pub returns : goal.returns
returns c = edge_point
