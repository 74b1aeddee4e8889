use Rattle.std.proofs.Common.{refl}
use Rattle.trees.proofs.Folds.{deed_of-Assign}
use Rattle.syntax.specs.Exact.{assignment}
use Rattle.syntax.proofs.Parts.{strict_name, strict_right}
use Rattle.syntax.proofs.reader.Reader.assignment.Goals as goal

pub listed-requires : goal.listed-requires
listed-requires g c = strict_name

pub listed-requires-2 : goal.listed-requires-2
listed-requires-2 g c = strict_right

pub returns-clause-gives : goal.returns-clause-gives
unfolding assignment
returns-clause-gives g c =
    rw (c.in_ok-targets.ensures.gives, c.in_ok-sides.ensures.gives, deed_of-Assign c.in_ok-targets.targets c.in_ok-sides.sides) refl
