-- The ending of the plural and the verb are those of the numbers.
use Rattle.fault_details.proofs.details.push_given.Goals as goal

pub returns : goal.returns
returns g c = rw (← c.plural-s.ensures, ← c.verb-are.ensures) c.write.ensures.bytes
