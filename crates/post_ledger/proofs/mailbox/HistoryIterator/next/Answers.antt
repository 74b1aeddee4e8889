-- The event at the place is the first of those that are left.
use Rattle.std.proofs.Common.{drop, ◌+◌, subst, arith}
use Rattle.std.specs.Iterator.{YieldsFirst}
use Rattle.post_ledger.proofs.Histories.{first_left}
use Rattle.post_ledger.proofs.mailbox.HistoryIterator.next.Goals as goal

pub returns-clause-steps : goal.returns-clause-steps
returns-clause-steps g c =
    let i = c.self.inside in
    let outside = c.if-self-len.false in
    let first = first_left i.mailbox.now i.read c.event-event.result (omega (arith, outside, c.len.ensures)) c.event-event.ensures in
    subst (λ l. YieldsFirst (λ h. h) l c.event-event.result (drop (i.read + 1) i.mailbox.now)) c.self.view_is first
