use Rattle.std.proofs.Common.{arith}
use Rattle.round_rewrite.proofs.rounds.Rounds.count.Goals as goal

pub returns-clause-count : goal.returns-clause-count
returns-clause-count c = omega arith

pub returns-clause-range : goal.returns-clause-range
returns-clause-range c = (omega arith, omega arith)
