-- What is written is the line and the column of the offset.
use Rattle.diagnostics.proofs.Locating.{placed}
use Rattle.diagnostics.proofs.message.push_place.Goals as goal

pub returns : goal.returns
returns g c =
    let place = c.position_of-place.result in
    placed c.write.result _ _ place.line place.column place.before.now place.behind.now _ _
    (rw (← c.min.ensures) c.position_of-place.ensures) c.write.ensures.bytes
