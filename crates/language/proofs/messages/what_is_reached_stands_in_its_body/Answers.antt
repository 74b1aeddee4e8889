use Rattle.language.specs.Lists.{Member}
use Rattle.language.proofs.ByMessages.{reached_stands}
use Rattle.language.proofs.messages.what_is_reached_stands_in_its_body.Goals as goal

pub returns : goal.returns
returns c = λ p q ms. reached_stands p q (λ m. Member m ms)
