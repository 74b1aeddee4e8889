use Rattle.std.proofs.Common.{◌<◌, length}
use Rattle.syntax.specs.Exact.{repeated}
use Rattle.syntax.specs.Parser.{many}
use Rattle.tokens.specs.Token.{toks_of}
use Rattle.syntax.proofs.Loops.{SoFar}
use Rattle.syntax.proofs.reader.Reader.repeated.Given as goal

abbrev pub invariant-loop-list : goal.invariant-loop-list
invariant-loop-list g l = record {
  whole : SoFar g.T.Written.tree (many g.T.Unseparated.another g.T.Written.grammar)
      (repeated g.T.Unseparated.another g.T.Written.grammar (toks_of l.tokens)) l.list.items (toks_of l.rest);
  shorter : length l.rest < length l.tokens;
}

abbrev pub decreases-loop-list : goal.decreases-loop-list
decreases-loop-list g l = length l.rest
