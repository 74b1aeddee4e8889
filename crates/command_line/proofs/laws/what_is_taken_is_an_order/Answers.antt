-- What was found for words that are accepted is an order on a file.
use Rattle.command_line.proofs.Accepted.{accepted}
use Rattle.command_line.proofs.laws.what_is_taken_is_an_order.Goals as goal

pub returns : goal.returns
returns c = λ words taken.
    let given = accepted words taken in
    let found = given.2 in
    (given.0, given.1, record { taken = taken; command = found.0; met = found.1; orders = found.2 })
