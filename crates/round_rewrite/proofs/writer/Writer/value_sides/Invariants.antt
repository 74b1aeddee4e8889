-- The right sides so far.
use Rattle.std.proofs.Common.{◌≡◌, ◌++◌, map}
use Rattle.trees.specs.Trees.{name_of, expr_of, rhss_of}
use Rattle.round_rewrite.specs.Table.{numbers, copy_value, expression_form}
use Rattle.round_rewrite.specs.Writing.{naming_of}
use Rattle.round_rewrite.proofs.writer.Writer.value_sides.Given as goal

abbrev pub invariant-loop-round : goal.invariant-loop-round
invariant-loop-round g l = rhss_of l.into.items ≡ rhss_of l.initial.into.items ++ map
    (copy_value (naming_of l.self) l.self.rounds.last (expression_form (naming_of l.self) l.self.rounds.last (expr_of l.e)) (name_of l.x))
    (numbers 0 l.round)
