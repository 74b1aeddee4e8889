-- What is there, followed by the rest rewritten, and each call's measure: a statement holds fewer than its list.
use Rattle.std.proofs.Common.{◌≡◌, ◌+◌, ◌*◌, drop}
use Rattle.language.specs.Sequential.{statements}
use Rattle.trees.specs.Trees.{items_of, deed_of, block_of, all_before}
use Rattle.round_rewrite.specs.Writing.{TextBlock, forms, naming_of}
use Rattle.trees.proofs.Held.{held}
use Rattle.round_rewrite.proofs.writer.Writer.+rewriting.Given as goal

abbrev pub invariant-rewritten-loop-stmt : goal.invariant-rewritten-loop-stmt
invariant-rewritten-loop-stmt g l =
    (rest : TextBlock) → all_before (items_of l.list.items) (forms (naming_of l.self) l.self.rounds.last
    (items_of (drop l.stmt-index l.stmts)) rest)
    ≡ forms (naming_of l.self) l.self.rounds.last (items_of l.stmts) rest

abbrev pub decreases-rewritten : goal.decreases-rewritten
decreases-rewritten g l = 2 * statements (block_of l.stmts.now)

abbrev pub decreases-core : goal.decreases-core
decreases-core g l = 2 * held (deed_of l.core.now) + 1
