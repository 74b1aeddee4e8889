-- What is sought does not stand in the tokens that were passed.
use Rattle.std.proofs.Common.{◌≡◌, drop}
use Rattle.fault_details.specs.Seeking.{seek}
use Rattle.fault_details.proofs.seeking.seek.Given as goal

abbrev pub invariant-loop-i : goal.invariant-loop-i
invariant-loop-i l = seek l.sought l.word (drop l.i l.tokens) ≡ seek l.sought l.word l.tokens
