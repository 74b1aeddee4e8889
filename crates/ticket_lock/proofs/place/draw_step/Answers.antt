use Rattle.ticket_lock.proofs.Places.{draws_allowed}
use Rattle.ticket_lock.proofs.place.draw_step.Goals as goal

pub fetch_add-requires : goal.fetch_add-requires
fetch_add-requires g c =
    let t = c.requires.table in
    let slot = g.J.At.slot in
    let P = g.P.LockRule in (
      t.0,
      t.1.0,
      draws_allowed (g.P.TableRule.holds c.args.shared.now.key) (P.see slot) (P.asks slot) (P.tells slot) c.args.word slot
          (g.met.P.LockRule.opens c.args.shared.now.key c.args.word slot t.2) _ _ c.args.seat.now.me c.requires.room c.requires.asks,
    )
