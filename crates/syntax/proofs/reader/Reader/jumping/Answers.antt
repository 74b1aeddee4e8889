use Rattle.trees.proofs.Folds.{deed_of-Goto}
use Rattle.syntax.proofs.reader.Reader.jumping.Goals as goal

pub returns-clause-gives : goal.returns-clause-gives
returns-clause-gives g c =
    rw c.in_ok-label.ensures.gives (rw (deed_of-Goto c.in_ok-label.label) at c.ended.ensures.gives)
