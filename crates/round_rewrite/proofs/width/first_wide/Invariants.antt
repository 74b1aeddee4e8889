-- The procedures before are narrow.
use Rattle.std.proofs.Common.{take}
use Rattle.trees.specs.Trees.{procs_of, tree_of}
use Rattle.round_rewrite.specs.Narrow.{AreNarrow}
use Rattle.round_rewrite.proofs.width.first_wide.Given as goal

abbrev pub invariant-loop-proc : goal.invariant-loop-proc
invariant-loop-proc g l = AreNarrow l.rounds.last (tree_of l.program) (take l.proc-index (procs_of l.proc-items))
