use Rattle.language.specs.Messages.{IsTakenBy}
use Rattle.language.proofs.Gathered.{gathered}
use Rattle.language.proofs.messages.closed_messages_are_those_due.Goals as goal

pub returns : goal.returns
returns c = λ p takes. gathered p (IsTakenBy takes)
