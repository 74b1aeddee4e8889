use Rattle.language.specs.Messages.{IsTakenBy}
use Rattle.language.proofs.Complete.{due_had}
use Rattle.language.proofs.Gathered.{edge_reached}
use Rattle.language.proofs.messages.closed_messages_hold_all_that_is_due.Goals as goal

pub returns : goal.returns
returns c = λ p takes opened closed. (due_had p (IsTakenBy takes) opened closed, edge_reached p (IsTakenBy takes) opened closed)
