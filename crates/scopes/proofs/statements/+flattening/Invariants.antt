-- What is there, followed by the others, and each call's measure: a statement holds fewer than its list.
use Rattle.std.proofs.Common.{◌≡◌, ◌+◌, ◌*◌, ◌++◌, drop}
use Rattle.language.specs.Sequential.{statements}
use Rattle.trees.specs.Trees.{block_of, deed_of}
use Rattle.trees.proofs.Held.{held}
use Rattle.resolved.specs.Statements.{lent_statements, statements_of}
use Rattle.scopes.proofs.statements.+flattening.Given as goal

abbrev pub invariant-flatten-loop-stmt : goal.invariant-flatten-loop-stmt
invariant-flatten-loop-stmt g l =
    lent_statements l.list.items ++ statements_of (block_of (drop l.stmt-index l.stmts))
    ≡ lent_statements l.initial.list.items ++ statements_of (block_of l.stmts)

abbrev pub decreases-flatten : goal.decreases-flatten
decreases-flatten g l = 2 * statements (block_of l.stmts.now) + 1

abbrev pub decreases-flatten_one : goal.decreases-flatten_one
decreases-flatten_one g l = 2 * held (deed_of l.stmt.now.core) + 2
