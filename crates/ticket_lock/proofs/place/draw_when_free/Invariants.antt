use Rattle.std.specs.Prelude.{◌≡◌}
use Rattle.ticket_lock.specs.Calls.{IsSameSeat}
use Rattle.ticket_lock.proofs.place.draw_when_free.Given as goal

abbrev pub invariant-loop-tries : goal.invariant-loop-tries
invariant-loop-tries g l = IsSameSeat l.fn.seat l.seat × (l.seat.me ≡ l.fn.seat.me)
