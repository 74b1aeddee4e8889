use Rattle.std.proofs.Common.{rules}
use Rattle.hints.proofs.place.last_kind.Goals as goal

pub returns-in-Some : goal.returns-in-Some
returns-in-Some c = search rules
