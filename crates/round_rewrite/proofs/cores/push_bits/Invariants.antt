-- The bits so far, and those below them.
use Rattle.std.proofs.Common.{◌≡◌, ◌++◌, reverse}
use Rattle.trees.specs.Trees.{names_of}
use Rattle.round_rewrite.specs.Names.{bit_names}
use Rattle.round_rewrite.proofs.cores.push_bits.Given as goal

abbrev pub invariant-loop-number : goal.invariant-loop-number
invariant-loop-number g l =
    names_of l.list.items ++ reverse (bit_names l.number) ≡ names_of l.fn.into.items ++ reverse (bit_names l.count)
