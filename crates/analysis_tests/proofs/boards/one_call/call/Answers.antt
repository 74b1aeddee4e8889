-- An abort without a job leaves all jobs.
use Rattle.analysis_tests.proofs.Leaving.{leaves_alone}
use Rattle.analysis_tests.proofs.boards.one_call.call.Goals as goal

pub returns-in-AbortAlone : goal.returns-in-AbortAlone
returns-in-AbortAlone g c =
    leaves_alone _ (g.B.Board.sight c.args.pass.now) (g.B.Board.sight c.abort-in-AbortAlone.new.pass) c.args.job.now _
    c.abort-in-AbortAlone.ensures c.requires.job
