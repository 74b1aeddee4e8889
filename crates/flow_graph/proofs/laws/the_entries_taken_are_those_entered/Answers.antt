use Rattle.flow_graph.specs.Numbers.{HasTaken}
use Rattle.flow_graph.proofs.Pairs.{entries_taken}
use Rattle.flow_graph.proofs.laws.the_entries_taken_are_those_entered.Goals as goal

pub returns : goal.returns
returns g c = λ p graphs takes h.
    entries_taken p graphs (HasTaken takes) h.fit h.are h.opening h.sent h.due
