use Rattle.std.proofs.Common.{rules}
use Rattle.refusals.proofs.lines.status.Goals as goal

pub returns-in-EdgeLimit : goal.returns-in-EdgeLimit
returns-in-EdgeLimit c = search rules
