use Rattle.ticket_lock.proofs.place.serve_next_at.Given as goal

abbrev pub ghosts-serve_step : goal.ghosts-serve_step
ghosts-serve_step g a = record { slot = a.slot; ticket = 0 }
