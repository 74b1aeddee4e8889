use Rattle.std.proofs.Common.{ap, subst, sym, ◌∙◌, ◌<◌, arith}
use Rattle.ticket_lock.specs.Count.{times}
use Rattle.ticket_lock.specs.Proved.Facts.{times-one}
use Rattle.ticket_lock.proofs.HistoryFacts.{times-snoc}
use Rattle.ticket_lock.proofs.place.come_when_free_at.Goals as goal

pub wait_with-requires-clause-held : goal.wait_with-requires-clause-held
wait_with-requires-clause-held g c =
    let h = g.P.LockRule.see c.args.slot c.args.seat.now.me.0 in
    let n = c.draw_when_free-ticket.result in
    let drawn = c.draw_when_free-ticket.ensures.1 in
    subst (λ k. 0 < times n k) (sym (ap (λ k. k.tickets) drawn.1.0)) (omega (arith, times-snoc n h.tickets n, times-one n))

pub returns : goal.returns
returns g c =
    let did = c.wait_with.ensures in
    let drew = c.draw_when_free-ticket.ensures in
    ((did.0.0 ∙ drew.0.0, did.0.1 ∙ drew.0.1), did.1, (c.draw_when_free-ticket.new.seat.me, drew.1, did.2))
