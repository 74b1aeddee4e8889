use Rattle.ticket_lock.proofs.place.draw_at.Given as goal

abbrev pub ghosts-draw_step : goal.ghosts-draw_step
ghosts-draw_step g a = record { slot = a.slot; ticket = 0 }
