-- The lanes that came and those to come are the new ones, and each that came has its pass.
use Rattle.std.proofs.Common.{◌≡◌, ◌≤◌, ◌++◌, length, vec_capacity}
use Rattle.std.specs.Vec.Iter.{into_iter_items}
use Rattle.ticket_lock.specs.Lanes.{fresh_lanes}
use Rattle.switchboard.specs.Sights.{fresh_sights}
use Rattle.switchboard.proofs.one_lock.board.OneLockBoard.open_with_budget.Given as goal

abbrev pub invariant-loop-lane : goal.invariant-loop-lane
invariant-loop-lane g l =
    (l.yielded ++ into_iter_items l.lane-iterator ≡ fresh_lanes l.lock.id l.budget l.lock.opening 0 l.boxes)
    × (l.passes.items ≡ fresh_sights l.lock.id l.budget l.lock.opening 0 (length l.yielded)) × (l.boxes ≤ vec_capacity l.passes)
