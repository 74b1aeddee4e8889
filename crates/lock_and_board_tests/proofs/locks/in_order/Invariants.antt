use Rattle.std.proofs.Common.{◌≤◌}
use Rattle.lock_and_board_tests.proofs.locks.in_order.Given as goal

abbrev pub invariant-loop-by : goal.invariant-loop-by
invariant-loop-by l = l.next ≤ l.by-index
