-- What is there, followed by the other checks.
use Rattle.std.proofs.Common.{◌≡◌, [], drop}
use Rattle.trees.specs.Trees.{names_of, items_of, all_before}
use Rattle.round_rewrite.specs.Table.{check}
use Rattle.round_rewrite.specs.Names.{by_names}
use Rattle.round_rewrite.specs.Writing.{TextBlock}
use Rattle.round_rewrite.proofs.main_procedure.MainWriter.check.Given as goal

abbrev pub invariant-loop-x : goal.invariant-loop-x
invariant-loop-x g l =
    (rest : TextBlock) → all_before (items_of l.into.items)
    (check (by_names []) l.self.rounds.last (names_of (drop l.x-index l.self.globals.now)) l.round rest)
    ≡ all_before (items_of l.initial.into.items) (check (by_names []) l.self.rounds.last (names_of l.self.globals.now) l.round rest)
