-- The pass is the same, and keeps the job.
use Rattle.post_ledger.specs.Orders.{HasJob}
use Rattle.lock_and_board_tests.specs.Passes.{IsSame}
use Rattle.lock_and_board_tests.proofs.refusals.posts.Given as goal

abbrev pub invariant-loop-n : goal.invariant-loop-n
invariant-loop-n g l =
    let sight = g.B.Board.sight in
    IsSame (sight l.fn.pass) (sight l.pass) × HasJob (sight l.pass).number l.job (sight l.pass).seen.order
