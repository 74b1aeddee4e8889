use Rattle.std.proofs.Common.{◌≡◌, ◌<◌, length, ◌+◌, ◌*◌}
use Rattle.syntax.specs.Exact.{reading, from, after}
use Rattle.trees.specs.Trees.{expr_of}
use Rattle.tokens.specs.Token.{toks_of}
use Rattle.syntax.proofs.reader.Reader.+expressions.Given as goal

abbrev pub decreases-expression : goal.decreases-expression
decreases-expression g l = 2 * length l.tokens.now + 1

abbrev pub decreases-operand : goal.decreases-operand
decreases-operand g l = 2 * length l.tokens.now

-- going on from what was read so far reads the whole
abbrev pub invariant-expression-loop-first : goal.invariant-expression-loop-first
invariant-expression-loop-first g l = record {
  whole : reading (from l.least) (toks_of l.tokens) ≡ reading (after l.least (expr_of l.tree)) (toks_of l.rest);
  shorter : length l.rest < length l.tokens;
}

abbrev pub decreases-expression-loop-first : goal.decreases-expression-loop-first
decreases-expression-loop-first g l = length l.rest
