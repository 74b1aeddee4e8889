use Rattle.std.proofs.Common.{◌≡◌, ◌++◌, drop}
use Rattle.trees.specs.Trees.{procs_of}
use Rattle.resolved.specs.Statements.{lent}
use Rattle.resolved.specs.There.{names}
use Rattle.scopes.proofs.twice.proc_names.Given as goal

abbrev pub invariant-loop-proc : goal.invariant-loop-proc
invariant-loop-proc g l = lent l.list.items ++ names (procs_of (drop l.proc-index l.procs)) ≡ names (procs_of l.procs)
