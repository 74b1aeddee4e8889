-- A take that gives no message leaves the jobs.
use Rattle.switchboard.proofs.Jobs.{kept_none}
use Rattle.lock_and_board_tests.proofs.boards.found.Goals as goal

pub returns-in-Ok-Empty-clause-keeps : goal.returns-in-Ok-Empty-clause-keeps
returns-in-Ok-Empty-clause-keeps g c = let h = rw c.in-Ok-Empty.field-0-is at c.in-Ok-Empty.ensures in
    λ j has. kept_none _ (g.B.Board.sight c.args.pass.now) (g.B.Board.sight c.take.new.pass) j h.0.0 has

pub returns-in-Ok-Closed-clause-keeps : goal.returns-in-Ok-Closed-clause-keeps
returns-in-Ok-Closed-clause-keeps g c = let h = rw c.in-Ok-Closed.field-0-is at c.in-Ok-Closed.ensures in
    λ j has. kept_none _ (g.B.Board.sight c.args.pass.now) (g.B.Board.sight c.take.new.pass) j h.0.0 has

pub returns-in-Ok-Aborted-clause-keeps : goal.returns-in-Ok-Aborted-clause-keeps
returns-in-Ok-Aborted-clause-keeps g c = let h = rw c.in-Ok-Aborted.field-0-is at c.in-Ok-Aborted.ensures in
    λ j has. kept_none _ (g.B.Board.sight c.args.pass.now) (g.B.Board.sight c.take.new.pass) j h.0.0 has
