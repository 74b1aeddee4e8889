-- The checks so far.
use Rattle.std.proofs.Common.{[]}
use Rattle.trees.specs.Trees.{names_of}
use Rattle.round_rewrite.specs.Table.{numbers, checks}
use Rattle.round_rewrite.specs.Names.{by_names}
use Rattle.round_rewrite.specs.Writing.{Lays}
use Rattle.round_rewrite.proofs.main_procedure.MainWriter.checks.Given as goal

abbrev pub invariant-loop-round : goal.invariant-loop-round
invariant-loop-round g l =
    Lays l.initial.into.items l.into.items
    (λ k. checks (by_names []) l.self.rounds.last (names_of l.self.globals.now) (numbers 0 l.round) k)
