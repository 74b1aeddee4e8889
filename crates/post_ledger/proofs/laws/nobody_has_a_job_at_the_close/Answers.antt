use Rattle.post_ledger.proofs.Orders.{no_job}
use Rattle.post_ledger.proofs.laws.nobody_has_a_job_at_the_close.Goals as goal

pub returns : goal.returns
returns g c = no_job
