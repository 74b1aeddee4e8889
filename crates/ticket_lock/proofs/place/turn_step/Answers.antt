use Rattle.std.proofs.Common.{sym, ◌∙◌, arith, eqb-true}
use Rattle.std.proofs.lemmas.Bool.{eqb-false}
use Rattle.ticket_lock.proofs.Places.{looks_allowed}
use Rattle.ticket_lock.proofs.place.turn_step.Goals as goal

pub load-requires : goal.load-requires
load-requires g c =
    let t = c.requires.table in
    let slot = g.J.At.slot in
    let P = g.P.LockRule in (
      t.0,
      omega arith,
      looks_allowed (g.P.TableRule.holds c.args.shared.now.key) (P.see slot) (P.asks slot) (P.tells slot) c.args.word slot
          (g.met.P.LockRule.opens c.args.shared.now.key c.args.word slot t.2) _ _ c.args.seat.now.me g.J.At.ticket c.requires.held
          c.requires.waits c.requires.enters,
    )

pub returns : goal.returns
returns g c =
    let same = c.requires.table.4 in
    let did = c.load.ensures in (
      (did.0, did.1),
      ((λ yes. did.2.0 (eqb-true _ _ yes ∙ sym same)), (λ no. did.2.1 (λ e. eqb-false _ _ no (e ∙ same)))),
    )
