use Rattle.language.specs.Lists.{Member}
use Rattle.language.proofs.Gathered.{reached_edge}
use Rattle.language.proofs.messages.by_due_messages_only_path_edges_are_reached.Goals as goal

pub returns : goal.returns
returns c = λ p q ms a v r due reached. reached_edge p q (λ m. Member m ms) due a v r reached
