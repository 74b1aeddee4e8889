-- The line begins after the last newline so far.
use Rattle.std.proofs.Common.{◌≡◌, ◌-◌, ◌<◌, ◌≤◌, ℕ, get_or}
use Rattle.diagnostics.proofs.position.start_of.Given as goal

abbrev pub invariant-loop-i : goal.invariant-loop-i
invariant-loop-i l = record {
  within : l.start ≤ l.i;
  inside : (k : ℕ) → l.start ≤ k → k < l.i → get_or l.text k 0 ≡ 10 → ⊥;
  begins : 0 < l.start → get_or l.text (l.start - 1) 0 ≡ 10;
}
