-- The pass is the same.
use Rattle.lock_and_board_tests.specs.Passes.{IsSame}
use Rattle.lock_and_board_tests.proofs.many.drain.Given as goal

abbrev pub invariant-loop-look : goal.invariant-loop-look
invariant-loop-look g l = IsSame (g.B.Board.sight l.fn.pass) (g.B.Board.sight l.pass)
