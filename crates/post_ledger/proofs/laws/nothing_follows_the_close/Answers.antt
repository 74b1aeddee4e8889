use Rattle.post_ledger.proofs.Orders.{nothing_follows}
use Rattle.post_ledger.proofs.laws.nothing_follows_the_close.Goals as goal

pub returns : goal.returns
returns g c = nothing_follows
