-- What the statements so far need, with what the others need; each call's measure as in the rewriting.
use Rattle.std.proofs.Common.{◌≡◌, ◌+◌, ◌*◌, max, drop}
use Rattle.language.specs.Sequential.{statements}
use Rattle.trees.specs.Trees.{deed_of, block_of}
use Rattle.round_rewrite.specs.Table.{temporaries}
use Rattle.round_rewrite.specs.Writing.{naming_of}
use Rattle.trees.proofs.Held.{held}
use Rattle.round_rewrite.proofs.writer.Writer.+needs.Given as goal

abbrev pub invariant-needs-loop-stmt : goal.invariant-needs-loop-stmt
invariant-needs-loop-stmt g l =
    max l.number (temporaries (naming_of l.self).is_shared (block_of (drop l.stmt-index l.stmts)))
    ≡ temporaries (naming_of l.self).is_shared (block_of l.stmts)

abbrev pub decreases-needs : goal.decreases-needs
decreases-needs g l = 2 * statements (block_of l.stmts.now) + 1

abbrev pub decreases-needs_of : goal.decreases-needs_of
decreases-needs_of g l = 2 * held (deed_of l.core.now) + 2
