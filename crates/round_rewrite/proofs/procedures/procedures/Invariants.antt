-- The procedures so far, with the others rewritten after them.
use Rattle.std.proofs.Common.{◌≡◌, ◌++◌, ◌∷◌, map, drop}
use Rattle.trees.specs.Trees.{procs_of, tree_of}
use Rattle.round_rewrite.specs.Names.{main_procedure, rewritten_procedure}
use Rattle.round_rewrite.specs.Writing.{AreFew}
use Rattle.round_rewrite.proofs.procedures.procedures.Given as goal

abbrev pub invariant-loop-proc : goal.invariant-loop-proc
invariant-loop-proc g l =
    (procs_of l.list.items ++ map (rewritten_procedure l.rounds.last) (procs_of (drop l.proc-index l.proc-items))
    ≡ main_procedure l.rounds.last (tree_of l.program) ∷ map (rewritten_procedure l.rounds.last) (procs_of l.proc-items))
    × AreFew (procs_of (drop l.proc-index l.proc-items))
