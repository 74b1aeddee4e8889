use Rattle.std.proofs.Common.{subst}
use Rattle.std.specs.Prelude.{IsPermutation}
use Rattle.naming.proofs.pruning.in_order.Goals as goal

pub returns : goal.returns
returns g c =
    subst (λ l. IsPermutation l c.put_in_order.new.heads.items) c.in_ok-sorted.ensures.items c.put_in_order.ensures
