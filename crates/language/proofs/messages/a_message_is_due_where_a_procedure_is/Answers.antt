use Rattle.language.proofs.Entering.{due_there}
use Rattle.language.proofs.messages.a_message_is_due_where_a_procedure_is.Goals as goal

pub returns : goal.returns
returns c = due_there
