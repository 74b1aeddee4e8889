use Rattle.ticket_lock.specs.Promises.{IsIdle}
use Rattle.lock_and_board_tests.proofs.locks.work.Given as goal

abbrev pub invariant-loop-mark : goal.invariant-loop-mark
invariant-loop-mark g l = IsIdle l.lock.id l.lane
