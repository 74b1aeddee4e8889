-- The names so far, and what the others come to.
use Rattle.std.proofs.Common.{◌≡◌, ◌++◌, drop}
use Rattle.trees.specs.Trees.{names_of}
use Rattle.round_rewrite.proofs.lists.clone_names.Given as goal

abbrev pub invariant-loop-x : goal.invariant-loop-x
invariant-loop-x g l = names_of l.list.items ++ names_of (drop l.x-index l.xs) ≡ names_of l.fn.into.items ++ names_of l.xs
