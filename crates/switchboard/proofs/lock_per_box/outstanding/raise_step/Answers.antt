use Rattle.switchboard.proofs.BoxWords.{raises}
use Rattle.switchboard.proofs.lock_per_box.outstanding.raise_step.Goals as goal

pub fetch_or-requires : goal.fetch_or-requires
fetch_or-requires g c =
    let own = c.requires.own in (
      c.requires.table.0,
      c.requires.table.1,
      raises g.M.Mail.fits c.args.shared.now.key _ _ c.args.seat.now.me g.J.About.abort own.0 own.1 own.2 own.3 own.4,
    )
