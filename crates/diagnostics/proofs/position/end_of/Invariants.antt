-- There is no newline between the offset and here.
use Rattle.std.proofs.Common.{◌≡◌, ◌<◌, ◌≤◌, ℕ, get_or}
use Rattle.diagnostics.proofs.position.end_of.Given as goal

abbrev pub invariant-loop-i : goal.invariant-loop-i
invariant-loop-i l = (k : ℕ) → l.at ≤ k → k < l.i → get_or l.text k 0 ≡ 10 → ⊥
