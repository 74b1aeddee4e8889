-- The pass is the same, and keeps the jobs that it had.
use Rattle.lock_and_board_tests.specs.Passes.{IsSame, KeepsJobs}
use Rattle.lock_and_board_tests.proofs.refusals.takes.Given as goal

abbrev pub invariant-loop-n : goal.invariant-loop-n
invariant-loop-n g l =
    let sight = g.B.Board.sight in
    IsSame (sight l.fn.pass) (sight l.pass) × KeepsJobs (sight l.fn.pass) (sight l.pass)
