use Rattle.switchboard.proofs.board.Board.turn.Goals as goal

-- src/board.rt:104:5
pub returns-in-Ok : goal.returns-in-Ok
returns-in-Ok g c = (g.Self.Board.sight c.done.new.pass, c.in_default.ensures, c.in-Ok.ensures)

-- src/board.rt:104:5
pub returns-in-Err-take : goal.returns-in-Err-take
returns-in-Err-take g c = (g.Self.Board.sight c.done.new.pass, c.in_default.ensures, c.in-Err-take.ensures)
