use Rattle.std.proofs.Common.{rules}
use Rattle.jobs.proofs.no_thread.fn.start.work.Goals as goal

pub returns : goal.returns
returns g c = search rules
