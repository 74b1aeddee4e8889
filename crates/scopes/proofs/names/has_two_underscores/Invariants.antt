use Rattle.std.proofs.Common.{◌≡◌, ℕ, ◌+◌, ◌<◌, get_or}
use Rattle.scopes.proofs.names.has_two_underscores.Given as goal

abbrev pub invariant-loop-i : goal.invariant-loop-i
invariant-loop-i g l = (k : ℕ) → k + 1 < l.i → get_or l.text k 0 ≡ 95 → get_or l.text (k + 1) 0 ≡ 95 → ⊥
