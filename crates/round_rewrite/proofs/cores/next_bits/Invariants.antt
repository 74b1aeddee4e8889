-- The bits so far, and those below them.
use Rattle.std.proofs.Common.{◌≡◌, ◌++◌, map, reverse}
use Rattle.language.specs.Tree.{value}
use Rattle.language.specs.Sequential.{numbers}
use Rattle.trees.specs.Trees.{rhss_of}
use Rattle.round_rewrite.specs.Writing.{raised_bit}
use Rattle.round_rewrite.proofs.cores.next_bits.Given as goal

abbrev pub invariant-loop-number : goal.invariant-loop-number
invariant-loop-number g l =
    rhss_of l.list.items ++ reverse (map (λ j. value (raised_bit j)) (numbers 0 l.number))
    ≡ reverse (map (λ j. value (raised_bit j)) (numbers 0 l.count))
