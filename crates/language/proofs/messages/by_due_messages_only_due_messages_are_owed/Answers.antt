use Rattle.language.specs.Lists.{Member}
use Rattle.language.proofs.Sound.{owed_due}
use Rattle.language.proofs.messages.by_due_messages_only_due_messages_are_owed.Goals as goal

pub returns : goal.returns
returns c = λ p q s ms m due owed. owed_due p q (λ k. Member k ms) due s m owed
