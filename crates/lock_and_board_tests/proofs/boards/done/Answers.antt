-- A completion leaves every other job.
use Rattle.switchboard.proofs.Jobs.{done_keeps}
use Rattle.lock_and_board_tests.proofs.boards.done.Goals as goal

pub returns-clause-keeps : goal.returns-clause-keeps
returns-clause-keeps g c =
    λ j other has. done_keeps _ (g.B.Board.sight c.args.pass.now) (g.B.Board.sight c.done.new.pass) c.args.job j c.in-Ok.ensures other has
