use Rattle.switchboard.proofs.BoxWords.{counts_up}
use Rattle.switchboard.proofs.lock_per_box.outstanding.count_step.Goals as goal

pub fetch_add-requires : goal.fetch_add-requires
fetch_add-requires g c =
    let job = c.requires.job in (
      c.requires.table.0,
      c.requires.table.1,
      counts_up g.M.Mail.fits c.args.shared.now.key _ _ c.args.seat.now.me g.J.About.job job.0 job.1 job.2 job.3 c.requires.budget,
    )
