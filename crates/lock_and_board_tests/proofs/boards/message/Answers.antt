-- The job of a message taken is one of the pass, not one that it had, and those that it had stay.
use Rattle.switchboard.proofs.Jobs.{job_new, job_other, take_keeps}
use Rattle.lock_and_board_tests.proofs.boards.message.Goals as goal

pub returns-clause-job : goal.returns-clause-job
returns-clause-job g c = let h = rw c.in-Ok-Message.field-0-is at c.in-Ok-Message.ensures in
    job_new _ (g.B.Board.sight c.args.pass.now) (g.B.Board.sight c.take.new.pass) c.in-Ok-Message.job _ h

pub returns-clause-fresh : goal.returns-clause-fresh
returns-clause-fresh g c = let h = rw c.in-Ok-Message.field-0-is at c.in-Ok-Message.ensures in
    λ j has. job_other _ (g.B.Board.sight c.args.pass.now) (g.B.Board.sight c.take.new.pass) c.in-Ok-Message.job j _ h has

pub returns-clause-keeps : goal.returns-clause-keeps
returns-clause-keeps g c = let h = rw c.in-Ok-Message.field-0-is at c.in-Ok-Message.ensures in
    λ j has. take_keeps _ (g.B.Board.sight c.args.pass.now) (g.B.Board.sight c.take.new.pass) c.in-Ok-Message.job j _ h has
