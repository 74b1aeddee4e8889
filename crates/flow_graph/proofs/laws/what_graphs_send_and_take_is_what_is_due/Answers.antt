use Rattle.flow_graph.specs.Numbers.{HasTaken}
use Rattle.flow_graph.proofs.DueLemmas.{taken_due, edges_taken}
use Rattle.flow_graph.proofs.laws.what_graphs_send_and_take_is_what_is_due.Goals as goal

pub returns : goal.returns
returns g c = λ p graphs takes h q. (
  taken_due p graphs (HasTaken takes) h.fit h.are h.opening h.sent h.due q,
  edges_taken p graphs (HasTaken takes) h.fit h.are h.opening h.sent h.due q,
)
