use Rattle.flow_graph.proofs.Pairs.{due_told}
use Rattle.flow_graph.proofs.laws.its_numbers_tell_that_a_message_is_due.Goals as goal

pub returns : goal.returns
returns c = λ p q m fit wide. due_told p fit q m wide
