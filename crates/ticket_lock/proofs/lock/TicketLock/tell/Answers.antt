use Rattle.std.proofs.Common.{arith, sym, ◌∙◌, ap}
use Rattle.ticket_lock.proofs.LoneSteps.{tells_allowed}
use Rattle.ticket_lock.proofs.lock.TicketLock.tell.Goals as goal

pub split_seat-requires : goal.split_seat-requires
split_seat-requires g c =
    let key = c.self.inside.board.shared.key in (
      ap (λ z. z.lock) c.lane.view_is ∙ (c.requires ∙ sym (ap (λ z. z.id) c.self.view_is)),
      omega (arith, c.self.invariant.0),
      tells_allowed g.T.LaneLaw.before g.T.LaneLaw.part key.value.value key.lanes _ _,
    )
