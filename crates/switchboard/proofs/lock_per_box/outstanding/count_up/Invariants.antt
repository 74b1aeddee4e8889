use Rattle.switchboard.specs.declared.calls.Cause.TheVariants.{Memory}
use Rattle.switchboard.proofs.lock_per_box.outstanding.count_up.Given as goal

abbrev pub ghosts-count_step : goal.ghosts-count_step
ghosts-count_step g a = record { job = a.job.now; abort = record { by = 0; cause = Memory } }
