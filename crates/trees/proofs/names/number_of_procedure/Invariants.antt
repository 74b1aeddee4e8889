-- None of the procedures so far has the name.
use Rattle.std.proofs.Common.{◌≡◌, ◌+◌, ◌≤◌, drop, map}
use Rattle.language.specs.Tree.{Procedure}
use Rattle.language.specs.Resolve.{number_of}
use Rattle.trees.specs.Trees.{procs_of}
use Rattle.trees.proofs.names.number_of_procedure.Given as goal

abbrev pub invariant-loop-proc : goal.invariant-loop-proc
invariant-loop-proc g l =
    (l.before ≤ l.proc-index)
    × (l.before + number_of l.text (map (λ (p : Procedure). p.name) (procs_of (drop l.proc-index l.procs)))
    ≡ number_of l.text (map (λ (p : Procedure). p.name) (procs_of l.procs)))
