use Rattle.std.proofs.Common.{sym, subst, refl, ◌∙◌, eqb-true}
use Rattle.std.proofs.lemmas.Bool.{eqb-false}
use Rattle.ticket_lock.specs.Calls.{Drew}
use Rattle.ticket_lock.proofs.Places.{draws_if_next_allowed}
use Rattle.ticket_lock.proofs.place.draw_if_next_step.Goals as goal

pub compare_exchange-requires : goal.compare_exchange-requires
compare_exchange-requires g c =
    let t = c.requires.table in
    let P = g.P.LockRule in (
      t.0,
      t.1.0,
      draws_if_next_allowed (g.P.TableRule.holds c.args.shared.now.key) (P.see g.J.At.slot) (P.asks g.J.At.slot) (P.tells g.J.At.slot)
          c.args.word g.J.At.slot (g.met.P.LockRule.opens c.args.shared.now.key c.args.word g.J.At.slot t.2) _ _ c.args.seat.now.me
          g.J.At.ticket c.args.next _ t.4 refl c.requires.room c.requires.asks.0 c.requires.asks.1,
    )

pub returns : goal.returns
returns g c =
    let t = c.requires.table in
    let P = g.P.LockRule in
    let did = c.compare_exchange.ensures in (
      (did.0, did.1),
      (
        (λ yes.
            subst (λ n. Drew (P.see g.J.At.slot) (P.tells g.J.At.slot) c.args.seat.now.me n c.compare_exchange.new.seat.me) t.4
            (did.2.0 (eqb-true _ _ yes ∙ sym t.4))),
        (λ no. did.2.1 (λ e. eqb-false _ _ no (e ∙ t.4))),
      ),
    )
