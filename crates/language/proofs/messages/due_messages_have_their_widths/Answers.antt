use Rattle.language.proofs.Widths.{due_message}
use Rattle.language.proofs.messages.due_messages_have_their_widths.Goals as goal

pub returns : goal.returns
returns c = λ p q m fit. due_message p fit q m
