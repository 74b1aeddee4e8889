use Rattle.flow_graph.specs.Numbers.{HasTaken}
use Rattle.flow_graph.proofs.Pairs.{bad_left}
use Rattle.flow_graph.proofs.laws.a_bad_pair_is_left_by_its_graph.Goals as goal

pub returns : goal.returns
returns g c = λ p graphs takes h order.
    bad_left p graphs (HasTaken takes) h.fit h.are h.opening h.sent h.due order
