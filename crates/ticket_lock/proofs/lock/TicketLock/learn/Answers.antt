use Rattle.std.proofs.Common.{arith, sym, ◌∙◌, ap}
use Rattle.ticket_lock.proofs.LoneSteps.{merges_allowed, takes_in_allowed}
use Rattle.ticket_lock.proofs.Served.{learned_is}
use Rattle.ticket_lock.proofs.lock.TicketLock.learn.Goals as goal

pub join_seat-requires : goal.join_seat-requires
join_seat-requires g c =
    let key = c.self.inside.board.shared.key in
    let note = c.into_seat-seat.ensures in
    let blank = note.2 in
    let own = sym (ap (λ z. z.id) c.self.view_is) in (
      ap (λ z. z.lock) c.lane.view_is ∙ (c.requires.0 ∙ own),
      note.0 ∙ (c.requires.1 ∙ own),
      ap (λ m. m.1) blank,
      omega (arith, c.self.invariant.0),
      merges_allowed g.T.LaneLaw.before g.T.LaneLaw.part key.value.value key.lanes _ _ _ _ c.lane.invariant.taken
          (ap (λ m. m.0.told) blank) (ap (λ m. m.0.hand.inside) blank),
    )

pub load-requires : goal.load-requires
load-requires g c =
    let key = c.self.inside.board.shared.key in (
      c.join_seat.ensures.0 ∙ (ap (λ z. z.lock) c.lane.view_is ∙ (c.requires.0 ∙ sym (ap (λ z. z.id) c.self.view_is))),
      omega (arith, c.self.invariant.0),
      takes_in_allowed g.T.LaneLaw.before g.T.LaneLaw.part key.value.value key.lanes _ _ _,
    )

pub returns : goal.returns
returns g c =
    let L = g.T.LaneLaw in
    let lane = c.lane.inside in
    learned_is L.before L.part lane.seat.table_id c.load.new.seat.table_id lane.number lane.left c.args.lane.now c.args.note lane.seat.me
    c.into_seat-seat.result.me c.join_seat.new.seat.me c.load.new.seat.me
    c.lane.view_is
    (c.load.ensures.0 ∙ c.join_seat.ensures.0) c.lane.invariant.one c.into_seat-seat.ensures.2 c.join_seat.ensures.2 c.load.ensures.2
