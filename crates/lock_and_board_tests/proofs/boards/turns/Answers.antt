-- The job of the message taken is one of the pass.
use Rattle.switchboard.proofs.Jobs.{job_new}
use Rattle.lock_and_board_tests.proofs.boards.turns.Goals as goal

pub returns-clause-job : goal.returns-clause-job
returns-clause-job g c = let h = rw c.in-Ok-Message.field-0-is at c.in-Ok-Message.ensures in
    job_new _ h.0 (g.B.Board.sight c.turn.new.pass) c.in-Ok-Message.next _ h.2
