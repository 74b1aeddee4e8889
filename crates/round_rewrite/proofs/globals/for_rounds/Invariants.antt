-- The names for the rounds so far.
use Rattle.std.proofs.Common.{◌≡◌, ℕ, ◌++◌, []}
use Rattle.trees.specs.Trees.{names_of}
use Rattle.round_rewrite.specs.Table.{numbers, copied}
use Rattle.round_rewrite.specs.Names.{by_names, numbered_name}
use Rattle.round_rewrite.proofs.globals.for_rounds.Given as goal

abbrev pub invariant-loop-done : goal.invariant-loop-done
invariant-loop-done g l = (last : ℕ)
    → names_of l.list.items ≡ names_of l.fn.into.items
    ++ copied (by_names []) last (numbered_name l.mark) (names_of l.xs) (numbers l.first l.done)
