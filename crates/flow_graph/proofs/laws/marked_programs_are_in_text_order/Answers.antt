use Rattle.flow_graph.proofs.DueLemmas.{ordered}
use Rattle.flow_graph.proofs.laws.marked_programs_are_in_text_order.Goals as goal

pub returns : goal.returns
returns c = ordered
