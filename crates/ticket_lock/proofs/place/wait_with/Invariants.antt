use Rattle.std.specs.Prelude.{◌≡◌}
use Rattle.ticket_lock.specs.Calls.{IsSameSeat}
use Rattle.ticket_lock.proofs.place.wait_with.Given as goal

abbrev pub invariant-loop : goal.invariant-loop
invariant-loop g l =
    IsSameSeat l.fn.seat l.seat × (l.seat.me ≡ l.fn.seat.me)
    × (goal.iterator-loop g).can_next l.iterator' × (goal.iterator-loop g).is_finite l.iterator'
