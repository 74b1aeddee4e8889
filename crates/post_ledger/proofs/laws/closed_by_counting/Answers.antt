use Rattle.post_ledger.proofs.Orders.{counted_closed}
use Rattle.post_ledger.proofs.laws.closed_by_counting.Goals as goal

pub returns : goal.returns
returns g c = counted_closed
