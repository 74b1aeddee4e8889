-- The arguments so far, and what the others are rewritten to.
use Rattle.std.proofs.Common.{◌≡◌, ◌++◌, map, drop}
use Rattle.trees.specs.Trees.{exprs_of}
use Rattle.round_rewrite.specs.Table.{expression_form}
use Rattle.round_rewrite.specs.Writing.{naming_of}
use Rattle.round_rewrite.proofs.writer.Writer.arguments.Given as goal

abbrev pub invariant-loop-e : goal.invariant-loop-e
invariant-loop-e g l =
    exprs_of l.list.items ++ map (expression_form (naming_of l.self) l.self.rounds.last) (exprs_of (drop l.e-index l.es))
    ≡ map (expression_form (naming_of l.self) l.self.rounds.last) (exprs_of l.es)
