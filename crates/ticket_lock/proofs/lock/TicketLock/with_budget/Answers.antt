use Rattle.std.proofs.Common.{◌∙◌, ap}
use Rattle.ticket_lock.specs.Lanes.{fresh_lanes}
use Rattle.ticket_lock.proofs.lock.TicketLock.with_budget.Goals as goal

pub returns-clause-ok : goal.returns-clause-ok
returns-clause-ok g c =
    let laid = c.in_ok-board.ensures.ok in
    let id = c.in_ok-board.board.shared.table_id in (
      laid.0,
      laid.1,
      c.deal.ensures ∙ ap (λ x. fresh_lanes id c.args.budget x 0 c.args.lanes) laid.0,
    )
