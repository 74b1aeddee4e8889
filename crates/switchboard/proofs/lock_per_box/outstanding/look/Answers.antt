use Rattle.switchboard.proofs.BoxWords.{looks}
use Rattle.switchboard.proofs.lock_per_box.outstanding.look.Goals as goal

pub load-requires : goal.load-requires
load-requires g c = (c.requires.table.0, c.requires.table.1, looks g.M.Mail.fits c.args.shared.now.key _ _ c.args.seat.now.me)
