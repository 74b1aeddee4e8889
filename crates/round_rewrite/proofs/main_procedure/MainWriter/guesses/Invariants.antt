-- The guesses so far.
use Rattle.std.proofs.Common.{[]}
use Rattle.trees.specs.Trees.{names_of}
use Rattle.round_rewrite.specs.Table.{numbers, guesses}
use Rattle.round_rewrite.specs.Names.{by_names}
use Rattle.round_rewrite.specs.Writing.{Lays}
use Rattle.round_rewrite.proofs.main_procedure.MainWriter.guesses.Given as goal

abbrev pub invariant-loop-before : goal.invariant-loop-before
invariant-loop-before g l =
    Lays l.initial.into.items l.into.items
    (λ k. guesses (by_names []) l.self.rounds.last (names_of l.self.globals.now) (numbers 1 l.before) k)
