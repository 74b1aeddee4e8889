use Rattle.std.proofs.Common.{arith}
use Rattle.switchboard.proofs.one_lock.pass.OnePass.number.Goals as goal

pub overflow_cast-result : goal.overflow_cast-result
overflow_cast-result g c = omega (arith, c.self.invariant.number, c.self.invariant.few, c.number.ensures)
