use Rattle.std.proofs.Common.{◌≡◌, ◌≤◌, length}
use Rattle.syntax.specs.Exact.{all_declarations, prepend}
use Rattle.trees.specs.Trees.{names_of}
use Rattle.tokens.specs.Token.{toks_of}
use Rattle.syntax.proofs.reader.Reader.declarations.Given as goal

-- what is read so far, with what is read from here on, is the whole
abbrev pub invariant-loop-rest : goal.invariant-loop-rest
invariant-loop-rest g l = record {
  whole : all_declarations (toks_of l.tokens) ≡ prepend (names_of l.list.items) (all_declarations (toks_of l.rest));
  no_longer : length l.rest ≤ length l.tokens;
}

abbrev pub decreases-loop-rest : goal.decreases-loop-rest
decreases-loop-rest g l = length l.rest
