use Rattle.std.proofs.Common.{arith, refl, sym, ◌∙◌, ap}
use Rattle.ticket_lock.proofs.lock.TicketLock.leave.Goals as goal

pub leave_at-requires-clause-table : goal.leave_at-requires-clause-table
leave_at-requires-clause-table g c =
    let sized = c.self.invariant in (
      ap (λ z. z.lock) c.lane.view_is ∙ (c.requires.lock ∙ sym (ap (λ z. z.id) c.self.view_is)),
      (omega (arith, sized.0), omega arith, omega (arith, sized.1)),
      (refl, refl),
    )
