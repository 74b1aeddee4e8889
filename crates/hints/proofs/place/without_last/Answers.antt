use Rattle.std.proofs.Common.{rules}
use Rattle.hints.proofs.place.without_last.Goals as goal

pub returns-else-is_empty : goal.returns-else-is_empty
returns-else-is_empty c = search rules
