use Rattle.std.proofs.Common.{◌≡◌, ◌≤◌, drop}
use Rattle.tokens.specs.Token.{toks_of}
use Rattle.tokens.proofs.Deep.{runs}
use Rattle.tokens.proofs.depth.has_long_run.Given as goal

abbrev pub invariant-loop-token : goal.invariant-loop-token
invariant-loop-token l = record {
  low : l.operators ≤ 64;
  same : runs l.operators (toks_of (drop l.token-index l.tokens)) ≡ runs 0 (toks_of l.tokens);
}
