-- A constant for each name so far, and what the others come to.
use Rattle.std.proofs.Common.{◌≡◌, ◌++◌, drop}
use Rattle.language.specs.Tree.{const, value}
use Rattle.trees.specs.Trees.{names_of, rhss_of}
use Rattle.round_rewrite.specs.Table.{each}
use Rattle.round_rewrite.proofs.lists.constants.Given as goal

abbrev pub invariant-loop-x : goal.invariant-loop-x
invariant-loop-x g l =
    rhss_of l.list.items ++ each (value (const l.bit)) (names_of (drop l._x-index l.xs)) ≡ each (value (const l.bit)) (names_of l.xs)
