use Rattle.std.proofs.Common.{rules}
use Rattle.jobs.proofs.jobs.begin.Goals as goal

pub returns-in-Ok-clause-behind : goal.returns-in-Ok-clause-behind
returns-in-Ok-clause-behind g c = search rules
