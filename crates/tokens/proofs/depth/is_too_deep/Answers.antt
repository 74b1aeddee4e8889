use Rattle.std.proofs.Common.{rules}
use Rattle.tokens.proofs.depth.is_too_deep.Goals as goal

pub returns-else-nests_too_deep : goal.returns-else-nests_too_deep
returns-else-nests_too_deep c = search rules
