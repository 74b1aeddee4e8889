-- nothing is kept
use Rattle.stack_sets.proofs.inclusions.has_match.Given as goal

abbrev pub invariant-loop-other : goal.invariant-loop-other
invariant-loop-other g l = Unit {0}
