-- The first pass is the same, and keeps the job.
use Rattle.post_ledger.specs.Orders.{HasJob}
use Rattle.lock_and_board_tests.specs.Passes.{IsSame}
use Rattle.lock_and_board_tests.proofs.many.begins.Given as goal

abbrev pub invariant-loop-to : goal.invariant-loop-to
invariant-loop-to g l =
    let sight = g.B.Board.sight in
    IsSame (sight l.fn.a) (sight l.a) × HasJob (sight l.a).number l.job (sight l.a).seen.order
