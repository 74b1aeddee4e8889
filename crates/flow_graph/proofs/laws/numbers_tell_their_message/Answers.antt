use Rattle.flow_graph.proofs.StepLemmas.{message_told}
use Rattle.flow_graph.proofs.laws.numbers_tell_their_message.Goals as goal

pub returns : goal.returns
returns c = message_told
