use Rattle.std.proofs.Common.{◌≡◌, ℕ, ◌+◌, [], ◌∷◌, vec_capacity}
use Rattle.ticket_lock.specs.Lone.{new_view, lanes_from}
use Rattle.ticket_lock.specs.Lanes.{fresh_lanes}
use Rattle.ticket_lock.proofs.open.deal.Given as goal

abbrev pub invariant-loop-number : goal.invariant-loop-number
invariant-loop-number g l =
    let x = l.shared.key.value.value in
    (left : ℕ)
    × (l.number + left ≡ l.lanes)
    × (l.seat.table_id ≡ l.shared.table_id)
    × (l.seat.me ≡ (new_view (x ∷ []) (lanes_from l.number left x), []))
    × (l.dealt.items ≡ fresh_lanes l.shared.table_id l.budget x 0 l.number)
    × (vec_capacity l.dealt ≡ vec_capacity l.fn.dealt)
