use Rattle.switchboard.proofs.BoxWords.{counts_down}
use Rattle.switchboard.proofs.lock_per_box.outstanding.count_down.Goals as goal

pub fetch_sub-requires : goal.fetch_sub-requires
fetch_sub-requires g c =
    (c.requires.table.0, c.requires.table.1, counts_down g.M.Mail.fits c.args.shared.now.key _ _ c.args.seat.now.me c.requires.owes)
