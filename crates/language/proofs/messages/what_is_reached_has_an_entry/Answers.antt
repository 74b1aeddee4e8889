use Rattle.language.specs.Lists.{Member}
use Rattle.language.proofs.ByMessages.{reached_entry}
use Rattle.language.proofs.messages.what_is_reached_has_an_entry.Goals as goal

pub returns : goal.returns
returns c = λ p q ms. reached_entry p q (λ m. Member m ms)
