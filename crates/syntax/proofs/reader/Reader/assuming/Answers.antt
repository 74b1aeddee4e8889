use Rattle.std.proofs.Common.{refl}
use Rattle.trees.proofs.Folds.{deed_of-Assume}
use Rattle.syntax.proofs.reader.Reader.assuming.Goals as goal

pub returns-clause-gives : goal.returns-clause-gives
returns-clause-gives g c = rw (c.in_ok-side.ensures.gives, deed_of-Assume c.in_ok-side.side) refl
