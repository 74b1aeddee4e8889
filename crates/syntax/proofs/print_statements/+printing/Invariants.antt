use Rattle.std.proofs.Common.{◌≡◌, ◌++◌, ◌+◌, ◌*◌, drop}
use Rattle.std.specs.String.{string_bytes}
use Rattle.tokens.specs.Parts.{text_of}
use Rattle.trees.specs.Trees.{deed_of, block_of}
use Rattle.grammar.specs.Printed.{block_parts}
use Rattle.language.specs.Sequential.{statements}
use Rattle.trees.proofs.Held.{held}
use Rattle.syntax.proofs.print_statements.+printing.Given as goal

abbrev pub decreases-print_arms : goal.decreases-print_arms
decreases-print_arms g l = 2 * held (deed_of l.core.now) + 1

abbrev pub decreases-print_block : goal.decreases-print_block
decreases-print_block g l = 2 * statements (block_of l.stmts.now)

-- the text so far, with what is left, is the whole
abbrev pub invariant-print_block-loop-stmt : goal.invariant-print_block-loop-stmt
invariant-print_block-loop-stmt g l =
    string_bytes l.out ++ text_of (block_parts l.level (block_of (drop l.stmt-index l.stmts)))
    ≡ string_bytes l.initial.out ++ text_of (block_parts l.level (block_of l.stmts))
