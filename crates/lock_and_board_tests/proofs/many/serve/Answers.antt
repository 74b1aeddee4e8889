-- The job of the message taken is not one that the pass had; so its completion leaves those.
use Rattle.switchboard.proofs.Jobs.{kept_none, job_new, job_other, take_keeps}
use Rattle.lock_and_board_tests.proofs.many.serve.Goals as goal

pub done-requires-clause-job : goal.done-requires-clause-job
done-requires-clause-job g c =
    let h = rw c.in-Ok-Message.field-0-is at c.in-Ok-Message.ensures in
    job_new _ (g.B.Board.sight c.args.pass.now) (g.B.Board.sight c.take.new.pass) c.in-Ok-Message.job _ h

pub returns-in-Ok-Message-clause-keeps : goal.returns-in-Ok-Message-clause-keeps
returns-in-Ok-Message-clause-keeps g c =
    let h = rw c.in-Ok-Message.field-0-is at c.in-Ok-Message.ensures in
    let s = g.B.Board.sight c.args.pass.now in
    let t = g.B.Board.sight c.take.new.pass in
    λ j has. c.done.ensures.keeps j (job_other _ s t c.in-Ok-Message.job j _ h has)
    (take_keeps _ s t c.in-Ok-Message.job j _ h has)

pub returns-in-Ok-Empty-clause-keeps : goal.returns-in-Ok-Empty-clause-keeps
returns-in-Ok-Empty-clause-keeps g c =
    let h = rw c.in-Ok-Empty.field-0-is at c.in-Ok-Empty.ensures in
    λ j has. kept_none _ (g.B.Board.sight c.args.pass.now) (g.B.Board.sight c.take.new.pass) j h.0.0 has

pub returns-in-Ok-Closed-clause-keeps : goal.returns-in-Ok-Closed-clause-keeps
returns-in-Ok-Closed-clause-keeps g c =
    let h = rw c.in-Ok-Closed.field-0-is at c.in-Ok-Closed.ensures in
    λ j has. kept_none _ (g.B.Board.sight c.args.pass.now) (g.B.Board.sight c.take.new.pass) j h.0.0 has
