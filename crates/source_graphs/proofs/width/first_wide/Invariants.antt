-- The procedures before are narrow.
use Rattle.std.proofs.Common.{◌≤◌, take}
use Rattle.std.specs.List.{AllByRecursion}
use Rattle.language.specs.Tree.{Procedure}
use Rattle.trees.specs.Trees.{procs_of, tree_of}
use Rattle.resolved.specs.Limits.{most_places}
use Rattle.resolved.specs.Narrow.{width}
use Rattle.source_graphs.proofs.width.first_wide.Given as goal

abbrev pub invariant-loop-proc : goal.invariant-loop-proc
invariant-loop-proc g l =
    AllByRecursion (λ (p : Procedure). width (tree_of l.program) p ≤ most_places) (take l.proc-index (procs_of l.proc-items))
