-- The right sides so far.
use Rattle.std.proofs.Common.{◌≡◌, ◌++◌, map}
use Rattle.language.specs.Tree.{var}
use Rattle.trees.specs.Trees.{name_of, rhss_of}
use Rattle.round_rewrite.specs.Table.{numbers, copy_value}
use Rattle.round_rewrite.specs.Names.{drawn_name}
use Rattle.round_rewrite.specs.Writing.{naming_of}
use Rattle.round_rewrite.proofs.writer.Writer.drawn_sides.Given as goal

abbrev pub invariant-loop-round : goal.invariant-loop-round
invariant-loop-round g l = rhss_of l.into.items ≡ rhss_of l.initial.into.items ++ map
    (copy_value (naming_of l.self) l.self.rounds.last (var (drawn_name l.number)) (name_of l.x)) (numbers 0 l.round)
