-- As many so far.
use Rattle.std.proofs.Common.{◌≡◌}
use Rattle.language.specs.Tree.{any}
use Rattle.trees.specs.Trees.{rhss_of}
use Rattle.round_rewrite.specs.Table.{numbers, each}
use Rattle.round_rewrite.proofs.assignment.any_values.Given as goal

abbrev pub invariant-loop : goal.invariant-loop
invariant-loop g l = rhss_of l.list.items ≡ each any (numbers 0 l.counter)
