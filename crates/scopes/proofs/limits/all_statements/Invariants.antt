use Rattle.std.proofs.Common.{◌≡◌, ◌++◌, drop}
use Rattle.trees.specs.Trees.{procs_of}
use Rattle.resolved.specs.Statements.{lent_statements, statements_of_all}
use Rattle.scopes.proofs.limits.all_statements.Given as goal

abbrev pub invariant-loop-proc : goal.invariant-loop-proc
invariant-loop-proc g l =
    lent_statements l.list.items ++ statements_of_all (procs_of (drop l.proc-index l.procs)) ≡ statements_of_all
    (procs_of l.procs)
