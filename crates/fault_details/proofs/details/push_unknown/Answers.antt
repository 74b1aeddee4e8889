-- The name comes after the words.
use Rattle.diagnostics.proofs.Appending.{at_last}
use Rattle.fault_details.proofs.details.push_unknown.Goals as goal

pub returns-in_ok-push-in-Some : goal.returns-in_ok-push-in-Some
returns-in_ok-push-in-Some g c =
    rw (c.in-Some.is, ← c.as_bytes.ensures.value)
    (at_last c.push_meant.result _ _ _ _ _ c.in_ok-push-in-Some.ensures c.push_meant.ensures)
