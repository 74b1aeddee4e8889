use Rattle.std.proofs.Common.{◌≡◌, []}
use Rattle.ticket_lock.proofs.Closing.{Gathered}
use Rattle.ticket_lock.proofs.lock.TicketLock.close.Given as goal

abbrev pub invariant-loop-lane : goal.invariant-loop-lane
invariant-loop-lane g l = (l.seat.table_id ≡ l.fn.self.id) × (l.seat.me.1 ≡ []) × Gathered l.yielded l.seat.me.0
    × (goal.iterator-loop-lane g).can_next l.lane-iterator × (goal.iterator-loop-lane g).is_finite l.lane-iterator
