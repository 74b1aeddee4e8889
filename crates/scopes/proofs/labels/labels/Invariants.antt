use Rattle.std.proofs.Common.{◌≡◌, ◌++◌, drop}
use Rattle.resolved.specs.Statements.{lent, lent_statements, labels_of}
use Rattle.scopes.proofs.labels.labels.Given as goal

abbrev pub invariant-loop-stmt : goal.invariant-loop-stmt
invariant-loop-stmt g l =
    lent l.list.items ++ labels_of (lent_statements (drop l.stmt-index l.stmts)) ≡ labels_of (lent_statements l.stmts)
