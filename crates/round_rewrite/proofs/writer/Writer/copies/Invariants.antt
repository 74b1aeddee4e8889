-- The copies so far.
use Rattle.std.proofs.Common.{◌≡◌, ◌++◌, map}
use Rattle.trees.specs.Trees.{name_of, names_of}
use Rattle.round_rewrite.specs.Table.{numbers}
use Rattle.round_rewrite.specs.Names.{copy_name}
use Rattle.round_rewrite.proofs.writer.Writer.copies.Given as goal

abbrev pub invariant-loop-round : goal.invariant-loop-round
invariant-loop-round g l =
    names_of l.into.items ≡ names_of l.initial.into.items ++ map (λ k. copy_name k (name_of l.x)) (numbers 0 l.round)
