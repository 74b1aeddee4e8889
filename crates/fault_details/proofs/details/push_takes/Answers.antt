-- The ending of the plural is that of the number.
use Rattle.fault_details.proofs.details.push_takes.Goals as goal

pub returns : goal.returns
returns g c = rw (← c.plural-s.ensures) c.write.ensures.bytes
