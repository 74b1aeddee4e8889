use Rattle.ticket_lock.proofs.place.is_turn.Given as goal

abbrev pub ghosts-turn_step : goal.ghosts-turn_step
ghosts-turn_step g a = record { slot = a.slot; ticket = a.ticket }
