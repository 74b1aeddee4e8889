use Rattle.post_ledger.proofs.Closing.{in_order}
use Rattle.post_ledger.proofs.laws.takes_are_the_first_posts.Goals as goal

pub returns : goal.returns
returns g c = in_order
