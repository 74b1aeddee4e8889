use Rattle.ticket_lock.proofs.Served.{served_is, served_to}
use Rattle.ticket_lock.proofs.lock.TicketLock.look.Goals as goal

pub returns : goal.returns
returns g c =
    let did = c.in-Some.ensures in
    let L = g.T.LaneLaw in
    let lane = c.lane.inside in
    let to = c.look_at-found.new.seat in
    let s =
    served_is L.before L.part lane.seat.table_id to.table_id lane.number lane.left c.ticket.inside.number lane.seat.me.0 to.me.0
    c.in-Some.value did.0.0 c.lane.invariant.one did.1.1 did.1.2 in
    served_to L.before L.part c.in-Some.value c.ticket.inside.number c.args.ticket _ _ _ c.ticket.view_is c.lane.view_is s
