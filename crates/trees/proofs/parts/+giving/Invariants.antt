-- None of the statements so far returns a value; a call's measure counts the statements that are left to look at.
use Rattle.std.proofs.Common.{◌≡◌, ◌+◌, ◌*◌, drop}
use Rattle.language.specs.Sequential.{statements}
use Rattle.language.specs.Resolve.{gives_value}
use Rattle.trees.specs.Trees.{deed_of, block_of}
use Rattle.trees.proofs.Held.{held}
use Rattle.trees.proofs.parts.+giving.Given as goal

abbrev pub invariant-give_value-loop-stmt : goal.invariant-give_value-loop-stmt
invariant-give_value-loop-stmt g l = gives_value (block_of (drop l.stmt-index l.stmts)) ≡ gives_value (block_of l.stmts)

abbrev pub decreases-give_value : goal.decreases-give_value
decreases-give_value g l = 2 * statements (block_of l.stmts.now) + 1

abbrev pub decreases-gives_within : goal.decreases-gives_within
decreases-gives_within g l = 2 * held (deed_of l.core.now) + 2
