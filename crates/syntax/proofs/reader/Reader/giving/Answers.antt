use Rattle.syntax.specs.Exact.{giving}
use Rattle.trees.proofs.Folds.{deed_of-Give}
use Rattle.syntax.proofs.reader.Reader.giving.Goals as goal

pub returns-clause-gives : goal.returns-clause-gives
unfolding giving
returns-clause-gives g c =
    rw c.in_ok-value.ensures.gives (rw (deed_of-Give c.in_ok-value.value) at c.ended.ensures.gives)
