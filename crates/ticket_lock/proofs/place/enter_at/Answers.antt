use Rattle.std.proofs.Common.{◌≡◌, ◌∷◌, ap, subst, sym, ◌∙◌, ◌<◌, arith, Some}
use Rattle.atomic_table.specs.Table.{rest}
use Rattle.ticket_lock.specs.Count.{times}
use Rattle.ticket_lock.specs.Proved.Facts.{times-one}
use Rattle.ticket_lock.proofs.HistoryFacts.{times-snoc}
use Rattle.ticket_lock.proofs.Carried.{holds_it, took_out}
use Rattle.ticket_lock.proofs.place.enter_at.Goals as goal

pub wait_with-requires-clause-held : goal.wait_with-requires-clause-held
wait_with-requires-clause-held g c =
    let h = g.P.LockRule.see c.args.slot c.args.seat.now.me.0 in
    let n = c.draw_at-ticket.result in
    let drawn = c.draw_at-ticket.ensures.1 in
    subst (λ k. 0 < times n k) (sym (ap (λ k. k.tickets) drawn.1.0)) (omega (arith, times-snoc n h.tickets n, times-one n))

pub exchange-found-requires : goal.exchange-found-requires
exchange-found-requires g c =
    let did = c.wait_with.ensures in (
      did.0.0 ∙ (c.draw_at-ticket.ensures.0.0 ∙ c.requires.table.0),
      (Some did.1, holds_it _ _ _ _ did.2.0),
    )

pub returns : goal.returns
returns g c =
    let P = g.P.LockRule in
    let drew = c.draw_at-ticket.ensures in
    let went = c.wait_with.ensures in
    let took = c.exchange-found.ensures in
    let out = subst (λ z. c.wait_with.new.seat.me.1 ≡ (c.args.slot, z) ∷ rest c.wait_with.new.seat.me.1) c.in-Some.is took.2 in (
      (took.0 ∙ (went.0.0 ∙ drew.0.0), took.1 ∙ (went.0.1 ∙ drew.0.1)),
      (
        c.draw_at-ticket.new.seat.me,
        drew.1,
        took_out (P.see c.args.slot) (P.tells c.args.slot) c.args.slot c.draw_at-ticket.result went.1 c.in-Some.value
            c.draw_at-ticket.new.seat.me c.wait_with.new.seat.me c.exchange-found.new.seat.me went.2 out took.3,
      ),
    )
