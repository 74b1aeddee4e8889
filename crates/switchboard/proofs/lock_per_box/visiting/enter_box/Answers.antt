use Rattle.std.proofs.Common.{sym, subst}
use Rattle.switchboard.specs.Knowing.{hand_at}
use Rattle.switchboard.specs.PerBox.{CanDraw, IsInside}
use Rattle.switchboard.proofs.BoxVisits.{inside_is}
use Rattle.switchboard.proofs.lock_per_box.visiting.enter_box.Goals as goal

pub returns : goal.returns
returns g c =
    let did = c.come_when_free_at.ensures in
    let m = c.args.seat.now.me in
    let w = c.come_when_free_at.new.seat.me in
    let same = c.from.ensures in (
      did.0,
      did.1,
      subst (λ q. IsInside g.M.Mail.fits q did.1 m w) same
          (inside_is g.M.Mail.fits c.from.result _ did.1 m w (subst (λ q. CanDraw (hand_at q m.0)) (sym same) c.requires.ready) did.2),
    )
