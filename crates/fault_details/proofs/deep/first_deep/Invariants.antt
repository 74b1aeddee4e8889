-- The tokens are shallow up to one index and too deep up to another.
use Rattle.std.proofs.Common.{◌-◌, ◌<◌, ◌≤◌, length, take}
use Rattle.tokens.specs.Depth.{TooDeep}
use Rattle.tokens.specs.Token.{toks_of}
use Rattle.fault_details.proofs.deep.first_deep.Given as goal

abbrev pub invariant-loop-deep : goal.invariant-loop-deep
invariant-loop-deep l = record {
  apart : l.shallow < l.deep;
  within : l.deep ≤ length l.tokens;
  shallow : TooDeep (toks_of (take l.shallow l.tokens)) → ⊥;
  deep : TooDeep (toks_of (take l.deep l.tokens));
}

abbrev pub decreases-loop-deep : goal.decreases-loop-deep
decreases-loop-deep l = l.deep - l.shallow
