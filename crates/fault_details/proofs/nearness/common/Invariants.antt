-- What is left of both words has the rest in common.
use Rattle.std.proofs.Common.{◌≡◌, ◌+◌, ◌-◌, ◌≤◌, drop, length}
use Rattle.fault_details.specs.Nearness.{common}
use Rattle.fault_details.proofs.nearness.common.Given as goal

abbrev pub invariant-loop-same : goal.invariant-loop-same
invariant-loop-same l = record {
  value : l.same + common (drop l.same l.word) (drop l.same l.other) ≡ common l.word l.other;
  first : l.same ≤ length l.word;
  second : l.same ≤ length l.other;
}

abbrev pub decreases-loop-same : goal.decreases-loop-same
decreases-loop-same l = length l.word - l.same
