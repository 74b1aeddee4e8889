use Rattle.std.proofs.Common.{◌≡◌, ◌<◌, length, ◌+◌, ◌*◌}
use Rattle.syntax.specs.Exact.{section, going_on, put_before}
use Rattle.trees.specs.Trees.{items_of}
use Rattle.tokens.specs.Token.{toks_of}
use Rattle.syntax.proofs.reader.Reader.+statements.Given as goal

abbrev pub decreases-statements : goal.decreases-statements
decreases-statements g l = 5 * length l.tokens.now + 4

-- what is read so far, with what is read from here on, is the whole
abbrev pub invariant-statements-loop-rest : goal.invariant-statements-loop-rest
invariant-statements-loop-rest g l = record {
  whole : section (toks_of l.tokens) ≡ put_before (items_of l.list.items) (going_on (toks_of l.rest));
  shorter : length l.rest < length l.tokens;
}

abbrev pub decreases-statements-loop-rest : goal.decreases-statements-loop-rest
decreases-statements-loop-rest g l = length l.rest

abbrev pub decreases-statements_before : goal.decreases-statements_before
decreases-statements_before g l = 5 * length l.tokens.now + 5

abbrev pub decreases-statement : goal.decreases-statement
decreases-statement g l = 5 * length l.tokens.now + 3

abbrev pub decreases-core : goal.decreases-core
decreases-core g l = 5 * length l.tokens.now + 2

abbrev pub decreases-branch : goal.decreases-branch
decreases-branch g l = 5 * length l.tokens.now + 1

abbrev pub decreases-repeat : goal.decreases-repeat
decreases-repeat g l = 5 * length l.tokens.now + 1
