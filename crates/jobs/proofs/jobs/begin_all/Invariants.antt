-- The jobs so far are begun, and there is room for all.
use Rattle.std.proofs.Common.{◌≡◌, ◌≤◌, ℕ, Some, IsSome, IfSome, length, slice_get, vec_capacity}
use Rattle.jobs.specs.Jobs.{HasNoThread, WasBegun}
use Rattle.jobs.proofs.ResultLemmas.{AllBehind}
use Rattle.jobs.proofs.jobs.begin_all.Given as goal

abbrev pub invariant-loop-slot : goal.invariant-loop-slot
invariant-loop-slot g l =
    (length l.begun.items ≡ l.slot-index)
    × (l.number ≡ l.slot-index)
    × (length l.slots ≤ vec_capacity l.begun)
    × IfSome l.refused (λ none. none.first ≤ l.number)
    × ((i : ℕ) (b : _) → slice_get l.begun.items i ≡ Some b → WasBegun g.J.Job.declines g.L.Lineup.jobs i b)
    × AllBehind HasNoThread l.begun.items
    × ((i : ℕ) (b : _) → slice_get l.begun.items i ≡ Some b → HasNoThread b → IsSome l.refused)
