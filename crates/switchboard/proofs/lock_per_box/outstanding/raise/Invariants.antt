use Rattle.switchboard.proofs.lock_per_box.outstanding.raise.Given as goal

abbrev pub ghosts-raise_step : goal.ghosts-raise_step
ghosts-raise_step g a = record { job = 0; abort = record { by = a.by; cause = a.cause } }
