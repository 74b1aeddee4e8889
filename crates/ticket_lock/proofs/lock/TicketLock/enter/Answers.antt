use Rattle.ticket_lock.proofs.Served.{came_is}
use Rattle.ticket_lock.proofs.lock.TicketLock.enter.Goals as goal

pub returns : goal.returns
returns g c =
    let L = g.T.LaneLaw in
    let lane = c.lane.inside in
    let seat = c.enter_at-number.new.seat in
    let did = c.enter_at-number.ensures in
    came_is L.before L.part lane.seat.table_id seat.table_id lane.number lane.left c.enter_at-number.result.0 c.args.lane.now lane.seat.me
    seat.me c.enter_at-number.result.1 c.lane.view_is did.0.0 c.if-lane-eq0.false c.lane.invariant.one did.1
