-- What is there, followed by the other threads.
use Rattle.std.proofs.Common.{◌≡◌, [], drop}
use Rattle.trees.specs.Trees.{threads_of, items_of, all_before}
use Rattle.round_rewrite.specs.Table.{starts}
use Rattle.round_rewrite.specs.Names.{by_names}
use Rattle.round_rewrite.specs.Writing.{TextBlock, line_names}
use Rattle.round_rewrite.proofs.main_procedure.MainWriter.starts.Given as goal

abbrev pub invariant-loop-thread : goal.invariant-loop-thread
invariant-loop-thread g l =
    (rest : TextBlock) → all_before (items_of l.into.items) (starts (by_names []) l.self.rounds.last
    (line_names (threads_of (drop l.thread-index l.threads))) rest)
    ≡ all_before (items_of l.initial.into.items) (starts (by_names []) l.self.rounds.last (line_names (threads_of l.threads)) rest)
