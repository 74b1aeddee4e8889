-- A post leaves the jobs.
use Rattle.switchboard.proofs.Jobs.{post_keeps, post_same}
use Rattle.lock_and_board_tests.proofs.boards.post.Goals as goal

pub returns-clause-pass : goal.returns-clause-pass
returns-clause-pass g c =
    post_same _ (g.B.Board.sight c.args.pass.now) (g.B.Board.sight c.post.new.pass) c.args.job.now c.args.to _ c.post.result c.post.ensures

pub returns-clause-keeps : goal.returns-clause-keeps
returns-clause-keeps g c =
    post_keeps _ (g.B.Board.sight c.args.pass.now) (g.B.Board.sight c.post.new.pass) c.args.job.now c.args.to _ c.post.result c.post.ensures
