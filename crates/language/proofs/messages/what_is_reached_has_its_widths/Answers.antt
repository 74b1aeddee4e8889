use Rattle.language.specs.Lists.{Member}
use Rattle.language.specs.Sequential.{entry}
use Rattle.language.proofs.ByMessages.{reached_entry}
use Rattle.language.proofs.Widths.{reached_valuation}
use Rattle.language.proofs.messages.what_is_reached_has_its_widths.Goals as goal

pub returns : goal.returns
returns c = λ p q ms a v r right reached.
    let (from, is) = reached_entry p q (λ m. Member m ms) a v r reached in
    (right (entry from a) is, reached_valuation p q (λ m. Member m ms) right a v r reached)
