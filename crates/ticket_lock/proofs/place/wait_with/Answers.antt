use Rattle.ticket_lock.proofs.place.wait_with.Goals as goal

pub is_turn-requires-clause-enters : goal.is_turn-requires-clause-enters
is_turn-requires-clause-enters g c = (c.requires.free.0 c.loop.seat.me.0).2
