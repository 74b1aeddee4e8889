use Rattle.std.proofs.Common.{sym, subst}
use Rattle.ticket_lock.specs.Calls.{MayPass, Passed}
use Rattle.switchboard.specs.Knowing.{hand_at}
use Rattle.switchboard.specs.PerBox.{LeavesEvents, TellsOrder}
use Rattle.switchboard.proofs.lock_per_box.visiting.leave_box.Goals as goal

pub serve_next_at-requires-clause-inside : goal.serve_next_at-requires-clause-inside
serve_next_at-requires-clause-inside g c =
    subst (λ q. MayPass (hand_at q) (LeavesEvents g.M.Mail.fits q) q c.args.seat.now.me) (sym c.from.ensures) c.requires.inside

pub returns : goal.returns
returns g c =
    let did = c.serve_next_at.ensures in (
      did.0,
      subst (λ q. Passed (hand_at q) (TellsOrder g.M.Mail.fits q) q c.args.seat.now.me c.serve_next_at.new.seat.me) c.from.ensures did.1,
    )
