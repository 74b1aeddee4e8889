-- Each event so far may follow those before it, and the Takes so far are counted.
use Rattle.std.proofs.Common.{◌≡◌, ◌<◌, ℕ, length, take, Some, slice_get}
use Rattle.post_ledger.specs.History.{takes, MayFollow}
use Rattle.post_ledger.proofs.legality.legal.Given as goal

abbrev pub invariant-loop-i : goal.invariant-loop-i
invariant-loop-i g l =
    (length (takes (take l.i l.history)) ≡ l.taken)
    × ((j : ℕ) (e : _) → j < l.i → slice_get l.history j ≡ Some e → MayFollow (take j l.history) e)
