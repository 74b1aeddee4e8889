-- The names so far, and what the others come to.
use Rattle.std.proofs.Common.{◌≡◌, ◌++◌, map, drop}
use Rattle.language.specs.Tree.{var, value}
use Rattle.trees.specs.Trees.{names_of, rhss_of}
use Rattle.round_rewrite.specs.Names.{copy_name}
use Rattle.round_rewrite.proofs.lists.reads.Given as goal

abbrev pub invariant-loop-x : goal.invariant-loop-x
invariant-loop-x g l =
    rhss_of l.list.items ++ map (λ y. value (var (copy_name l.round y))) (names_of (drop l.x-index l.xs))
    ≡ map (λ y. value (var (copy_name l.round y))) (names_of l.xs)
