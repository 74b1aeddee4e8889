-- A post leaves the jobs, also if it is refused.
use Rattle.switchboard.proofs.Jobs.{post_keeps, post_same}
use Rattle.analysis_tests.specs.Boards.{LeavesJob}
use Rattle.analysis_tests.proofs.Leaving.{leaves_all}
use Rattle.analysis_tests.proofs.boards.one_call.post.Given as given
use Rattle.analysis_tests.proofs.boards.one_call.post.Goals as goal
use Rattle.analysis_tests.proofs.boards.one_call.post.Goals.{After-post}

leaves : (g : given.Over) (c : After-post g)
    → LeavesJob (g.B.Board.sight c.args.pass.now) (g.B.Board.sight c.post.new.pass) c.args.job.now c.args.job.now
leaves g c =
    let s = g.B.Board.sight c.args.pass.now in
    let t = g.B.Board.sight c.post.new.pass in
    let job = c.in-Some.job in
    leaves_all s t c.args.job.now (post_same _ s t job 1 _ c.post.result c.post.ensures)
    (post_keeps _ s t job 1 _ c.post.result c.post.ensures) c.requires.job

pub returns-in-Ok : goal.returns-in-Ok
returns-in-Ok g c = leaves g (goal.at.returns-in-Ok g c).After-post

pub returns-in-Err : goal.returns-in-Err
returns-in-Err g c = leaves g (goal.at.returns-in-Err g c).After-post
