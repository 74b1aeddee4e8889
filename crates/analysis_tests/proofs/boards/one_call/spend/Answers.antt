-- A completion spends its job, and an abort does.
use Rattle.analysis_tests.proofs.Leaving.{spends_done, spends_refused}
use Rattle.analysis_tests.proofs.boards.one_call.spend.Goals as goal

pub returns-in-Ok : goal.returns-in-Ok
returns-in-Ok g c =
    let s = g.B.Board.sight c.args.pass.now in
    let t = g.B.Board.sight c.done.new.pass in
    spends_done _ s t c.args.job c.in-Some.job c.in-Some.is c.in-Ok.ensures

pub returns-in-Err : goal.returns-in-Err
returns-in-Err g c =
    spends_refused _ (g.B.Board.sight c.args.pass.now) (g.B.Board.sight c.done.new.pass)
    (g.B.Board.sight c.abort.new.pass) c.args.job _ c.in-Err.ensures.1 c.abort.ensures
