-- The temporaries so far.
use Rattle.std.proofs.Common.{◌≡◌, ◌++◌, map}
use Rattle.trees.specs.Trees.{names_of}
use Rattle.round_rewrite.specs.Table.{numbers}
use Rattle.round_rewrite.specs.Names.{drawn_name}
use Rattle.round_rewrite.proofs.assignment.temporaries.Given as goal

abbrev pub invariant-loop-k : goal.invariant-loop-k
invariant-loop-k g l = names_of l.list.items ≡ names_of l.fn.names.items ++ map drawn_name (numbers 0 l.k)
