use Rattle.std.proofs.Common.{rules}
use Rattle.gather.proofs.gathering.verdict_for.Goals as goal

pub returns-in-Spent : goal.returns-in-Spent
returns-in-Spent c = search rules
