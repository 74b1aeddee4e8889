use Rattle.std.proofs.Common.{rules}
use Rattle.procedure_worker.proofs.worker.Worker.step.Goals as goal

pub returns-in-Closed : goal.returns-in-Closed
returns-in-Closed g c = search rules
