-- What is counted so far, with what the other statements count; each call's measure is what it still has to count.
use Rattle.std.proofs.Common.{◌≡◌, ◌≤◌, ◌+◌, ◌*◌, drop}
use Rattle.language.specs.Sequential.{statements}
use Rattle.trees.specs.Trees.{deed_of, block_of}
use Rattle.trees.proofs.Held.{held}
use Rattle.flow_graph.proofs.sizes.+sizes.Given as goal

abbrev pub invariant-size-loop-stmt : goal.invariant-size-loop-stmt
invariant-size-loop-stmt g l =
    statements (block_of l.stmts) ≤ 18446744073709551615
    → l.number + statements (block_of (drop l.stmt-index l.stmts)) ≡ statements (block_of l.stmts)

abbrev pub decreases-size : goal.decreases-size
decreases-size g l = 2 * statements (block_of l.stmts.now) + 1

abbrev pub decreases-size_of : goal.decreases-size_of
decreases-size_of g l = 2 * held (deed_of l.stmt.now.core) + 2
