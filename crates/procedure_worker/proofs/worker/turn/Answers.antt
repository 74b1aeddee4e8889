-- No call was left for one of the two.
use Rattle.procedure_worker.proofs.Works.{left_ends}
use Rattle.procedure_worker.proofs.worker.turn.Goals as goal

pub returns-in-Err : goal.returns-in-Err
returns-in-Err g c =
    left_ends c.args.job c.in-Err.job c.fail.result (g.B.Board.sight c.args.pass.now) (g.B.Board.sight c.turn.new.pass)
    (g.B.Board.sight c.fail.new.pass) c.in-Err.ensures c.fail.ensures
