use Rattle.std.proofs.Common.{◌≡◌, drop}
use Rattle.trees.specs.Trees.{name_of, procs_of}
use Rattle.checked.specs.Faults.{named}
use Rattle.scopes.proofs.undeclared.find.Given as goal

abbrev pub invariant-loop-proc : goal.invariant-loop-proc
invariant-loop-proc g l =
    named (name_of l.x).text (procs_of l.procs) ≡ named (name_of l.x).text (procs_of (drop l.proc-index l.procs))
