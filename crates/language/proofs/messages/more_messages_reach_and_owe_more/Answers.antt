use Rattle.language.specs.Lists.{Member}
use Rattle.language.proofs.ByMessages.{reached_more, owed_more}
use Rattle.language.proofs.messages.more_messages_reach_and_owe_more.Goals as goal

pub returns : goal.returns
returns c = λ p q ms ns more. (
  reached_more p q (λ m. Member m ms) (λ m. Member m ns) more,
  owed_more p q (λ m. Member m ms) (λ m. Member m ns) more,
)
