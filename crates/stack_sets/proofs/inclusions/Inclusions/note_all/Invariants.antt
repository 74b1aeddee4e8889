-- each pair that is known was known, or is one of those
use Rattle.std.proofs.Common.{◌⊎◌}
use Rattle.language.specs.Lists.{Member}
use Rattle.stack_sets.specs.Within.{found_in}
use Rattle.stack_sets.specs.declared.inclusions.Pair.{Pair}
use Rattle.stack_sets.proofs.inclusions.Inclusions.note_all.Given as goal

abbrev pub invariant-loop-pair : goal.invariant-loop-pair
invariant-loop-pair g l = (p : Pair) → Member p (found_in l.self) → Member p (found_in l.fn.self) ⊎ Member p l.pairs.keys
