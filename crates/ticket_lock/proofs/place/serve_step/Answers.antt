use Rattle.std.proofs.Common.{arith}
use Rattle.ticket_lock.proofs.Places.{passes_allowed}
use Rattle.ticket_lock.proofs.place.serve_step.Goals as goal

pub fetch_add-requires : goal.fetch_add-requires
fetch_add-requires g c =
    let t = c.requires.table in
    let slot = g.J.At.slot in
    let P = g.P.LockRule in
    let may = c.requires.inside in (
      t.0,
      omega arith,
      passes_allowed (g.P.TableRule.holds c.args.shared.now.key) (P.see slot) (P.asks slot) (P.tells slot) c.args.word slot
          (g.met.P.LockRule.opens c.args.shared.now.key c.args.word slot t.2) _ _ c.args.seat.now.me may.0 may.2.0
          (t.1.2) may.1 may.2.1 may.3,
    )
