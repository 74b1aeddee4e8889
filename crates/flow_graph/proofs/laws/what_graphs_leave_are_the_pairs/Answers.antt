use Rattle.flow_graph.specs.Numbers.{HasTaken}
use Rattle.flow_graph.proofs.Pairs.{pairs_left}
use Rattle.flow_graph.proofs.laws.what_graphs_leave_are_the_pairs.Goals as goal

pub returns : goal.returns
returns g c = λ p graphs takes h order.
    pairs_left p graphs (HasTaken takes) h.fit h.are h.opening h.sent h.due order
