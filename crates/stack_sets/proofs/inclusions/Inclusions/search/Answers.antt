use Rattle.std.proofs.Common.{refl}
use Rattle.stack_sets.proofs.inclusions.Inclusions.search.Goals as goal

pub returns-then-branch-clause-within : goal.returns-then-branch-clause-within
returns-then-branch-clause-within g c t = (c.in_ok-is_noted.ensures.within c.if-branch.true c.args.pair (c.if-not-has.ensures refl)).1
