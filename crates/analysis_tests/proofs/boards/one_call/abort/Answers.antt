-- The abort leaves no job in the place.
use Rattle.analysis_tests.proofs.Leaving.{leaves_abort}
use Rattle.analysis_tests.proofs.boards.one_call.abort.Goals as goal

pub returns : goal.returns
returns g c =
    leaves_abort _ (g.B.Board.sight c.args.pass.now) (g.B.Board.sight c.abort.new.pass) c.args.job.now
    c.take-job.new.self _ c.take-job.ensures.after c.abort.ensures
