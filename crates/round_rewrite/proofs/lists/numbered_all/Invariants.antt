-- The names so far, and what the others come to.
use Rattle.std.proofs.Common.{◌≡◌, ◌++◌, map, drop}
use Rattle.trees.specs.Trees.{names_of}
use Rattle.round_rewrite.specs.Names.{numbered_name}
use Rattle.round_rewrite.proofs.lists.numbered_all.Given as goal

abbrev pub invariant-loop-x : goal.invariant-loop-x
invariant-loop-x g l =
    names_of l.list.items ++ map (numbered_name l.mark l.round) (names_of (drop l.x-index l.xs))
    ≡ names_of l.fn.into.items ++ map (numbered_name l.mark l.round) (names_of l.xs)
