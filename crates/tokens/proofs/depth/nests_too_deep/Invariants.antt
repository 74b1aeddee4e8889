use Rattle.std.proofs.Common.{◌≡◌, ◌≤◌, ◌+◌, drop}
use Rattle.tokens.specs.Token.{toks_of}
use Rattle.tokens.proofs.Deep.{nests}
use Rattle.tokens.proofs.depth.nests_too_deep.Given as goal

abbrev pub invariant-loop-token : goal.invariant-loop-token
invariant-loop-token l = record {
  opened : l.openings ≤ l.token-index;
  closed : l.closings ≤ l.token-index;
  low : l.openings ≤ 64 + l.closings;
  same : nests l.openings l.closings (toks_of (drop l.token-index l.tokens)) ≡ nests 0 0 (toks_of l.tokens);
}
