use Rattle.std.proofs.Common.{◌≡◌, ℕ, ◌+◌, [], vec_capacity}
use Rattle.switchboard.specs.Sights.{opened, fresh_sights}
use Rattle.switchboard.specs.Knowing.{first_view}
use Rattle.switchboard.proofs.lock_per_box.open.deal.Given as goal

abbrev pub invariant-loop-number : goal.invariant-loop-number
invariant-loop-number g l =
    (left : ℕ)
    × (l.number + left ≡ l.boxes)
    × (l.seat.table_id ≡ l.shared.table_id)
    × (l.seat.me ≡ (first_view l.shared.key l.number left, []))
    × (l.passes.items ≡ fresh_sights l.shared.table_id (l.calls + 1) (opened l.world l.boxes l.shared.key.to l.shared.key.first) 0 l.number)
    × (vec_capacity l.passes ≡ vec_capacity l.fn.passes)
