use Rattle.procedure_worker.proofs.Works.{new_fresh}
use Rattle.procedure_worker.proofs.laws.a_new_pass_is_fresh.Goals as goal

pub returns : goal.returns
returns g c = new_fresh
