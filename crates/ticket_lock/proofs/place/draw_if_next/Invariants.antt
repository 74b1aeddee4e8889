use Rattle.ticket_lock.proofs.place.draw_if_next.Given as goal

abbrev pub ghosts-draw_if_next_step : goal.ghosts-draw_if_next_step
ghosts-draw_if_next_step g a = record { slot = a.slot; ticket = a.next }
