-- The jobs of the call are the lineup.
use Rattle.jobs.proofs.jobs.run_all.Given as goal

abbrev pub ghosts-run_lineup : goal.ghosts-run_lineup
ghosts-run_lineup g a = record { jobs = a.jobs.items }
