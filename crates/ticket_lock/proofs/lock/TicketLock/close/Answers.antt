use Rattle.std.proofs.Common.{sym, ◌∙◌, ap, subst, arith, rules}
use Rattle.std.specs.Iterator.{Yields}
use Rattle.ticket_lock.specs.Promises.{IsIdle}
use Rattle.ticket_lock.proofs.LoneSteps.{arrives_allowed, merges_allowed, takes_in_allowed}
use Rattle.ticket_lock.proofs.Closing.{next_idle, gathers_step, closes_is, keeps_own, comes_last}
use Rattle.ticket_lock.proofs.lock.TicketLock.close.Given as given
use Rattle.ticket_lock.proofs.lock.TicketLock.close.Goals as goal
use Rattle.ticket_lock.proofs.lock.TicketLock.close.Goals.{In-Some}

-- the lane that comes is idle, as all are
idle_lane : (g : given.Over) (c : In-Some g) → IsIdle c.args.self.id c.in-Some.lane
idle_lane g c =
    next_idle g.I.Iterator.next_gives c.args.lanes c.into_iter-lane-iterator.result c.loop-lane.lane-iterator c.next.new.self
    c.loop-lane.yielded c.in-Some.lane c.args.self.id c.into_iter-lane-iterator.ensures.into_iter_gives c.loop-lane.yielded_by
    c.in-Some.ensures.steps c.requires.idle

pub load_new_seat-seat-requires : goal.load_new_seat-seat-requires
load_new_seat-seat-requires g c =
    let L = g.T.LaneLaw in
    let key = c.into_board-board.result.shared.key in
    (omega (arith, c.into_board-board.ensures.0), arrives_allowed L.before L.part key.value.value key.lanes _)

pub join_seat-requires : goal.join_seat-requires
join_seat-requires g c =
    let L = g.T.LaneLaw in
    let key = c.into_board-board.result.shared.key in
    let board = c.into_board-board.ensures in
    let now = c.loop-lane.invariant in
    let idle = idle_lane g (goal.at.join_seat-requires g c).In-Some in
    let own = c.into_seat-own.ensures in
    let inside = ap (λ z. z.inside) own.1 ∙ idle.2 in (
      now.0 ∙ sym board.1,
      ap (λ z. z.lock) own.1 ∙ (idle.0 ∙ sym board.1),
      own.0.outside inside,
      omega (arith, board.0),
      merges_allowed L.before L.part key.value.value key.lanes _ _ _ _ now.2.taken own.0.taken inside,
    )

pub load-requires : goal.load-requires
load-requires g c =
    let L = g.T.LaneLaw in
    let key = c.into_board-board.result.shared.key in
    let board = c.into_board-board.ensures in (
      c.join_seat.ensures.0 ∙ (c.loop-lane.invariant.0 ∙ sym board.1),
      omega (arith, board.0),
      takes_in_allowed L.before L.part key.value.value key.lanes _ _ _,
    )

pub loop-lane-preserved : goal.loop-lane-preserved
loop-lane-preserved g c =
    let L = g.T.LaneLaw in
    let now = c.loop-lane.invariant in
    let idle = idle_lane g (goal.at.loop-lane-preserved g c).In-Some in
    let own = c.into_seat-own.ensures in
    let r =
    gathers_step L.before L.part c.loop-lane.yielded c.in-Some.lane c.args.self.id c.into_seat-own.result.table_id
    c.in-Some.lane.number c.in-Some.lane.left c.loop-lane.seat.me c.join_seat.new.seat.me c.load.new.seat.me c.into_seat-own.result.me
    now.2 now.1 own.0 own.1 idle c.join_seat.ensures.2 c.load.ensures.2 in
    (c.load.ensures.0 ∙ (c.join_seat.ensures.0 ∙ now.0), r.0, r.1, search rules, search rules)

pub returns : goal.returns
returns g c =
    let board = c.into_board-board.ensures in
    let so_far : Yields g.I.Iterator.next_gives c.into_iter-lane-iterator.result c.loop-lane.yielded c.loop-lane.lane-iterator =
    c.loop-lane.yielded_by in
    let from : Yields g.I.Iterator.next_gives c.args.lanes c.loop-lane.yielded c.loop-lane.lane-iterator =
    subst
    (λ s. Yields g.I.Iterator.next_gives s c.loop-lane.yielded c.loop-lane.lane-iterator)
    c.into_iter-lane-iterator.ensures.into_iter_gives so_far in (
      c.loop-lane.yielded,
      (c.next.new.self, (c.loop-lane.lane-iterator, from, c.in-None.ensures.steps)),
      closes_is c.loop-lane.yielded c.loop-lane.seat.me.0 _ _ c.finish.result c.loop-lane.invariant.2 board.2 c.finish.ensures.rests,
      keeps_own g.T.LaneLaw.part c.loop-lane.yielded c.loop-lane.seat.me.0 c.finish.result c.loop-lane.invariant.2
          c.finish.ensures.parts,
      comes_last g.T.LaneLaw.before _ c.loop-lane.yielded c.loop-lane.seat.me.0 c.finish.result c.loop-lane.invariant.2
          c.finish.ensures.rises c.finish.ensures.rests,
    )
