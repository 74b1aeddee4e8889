-- The label stands where it stands among the other statements, the first of which has the number reached.
use Rattle.std.proofs.Common.{◌≡◌, ◌≤◌, ◌+◌, ◌*◌, drop}
use Rattle.language.specs.Resolve.{Scope, resolve_block}
use Rattle.language.specs.Rest.{Code}
use Rattle.language.specs.Sequential.{statements, numbered}
use Rattle.trees.specs.Trees.{deed_of, block_of}
use Rattle.trees.proofs.Held.{held}
use Rattle.flow_graph.proofs.LabelLemmas.{place}
use Rattle.flow_graph.proofs.labels.+finding.Given as goal

abbrev pub invariant-find-loop-stmt : goal.invariant-find-loop-stmt
invariant-find-loop-stmt g l =
    (s : Scope) (k : Code) → l.first + statements (block_of l.stmts) ≤ 18446744073709551615 →
    (l.at + statements (block_of (drop l.stmt-index l.stmts)) ≡ l.first + statements (block_of l.stmts))
    × (place l.label (numbered l.first (resolve_block s (block_of l.stmts))) k
    ≡ place l.label (numbered l.at (resolve_block s (block_of (drop l.stmt-index l.stmts)))) k)

abbrev pub decreases-find : goal.decreases-find
decreases-find g l = 2 * statements (block_of l.stmts.now) + 1

abbrev pub decreases-find_at : goal.decreases-find_at
decreases-find_at g l = 2 * held (deed_of l.stmt.now.core) + 2
