use Rattle.post_ledger.proofs.Orders.{no_job}
use Rattle.switchboard.proofs.laws.nobody_with_a_job_knows_the_close.Goals as goal

pub returns : goal.returns
returns g c = λ s job sound closed has. no_job s.seen.boxes s.seen.order s.number job sound.lawful closed has
