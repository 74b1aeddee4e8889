-- the least cause of the ends so far
use Rattle.std.proofs.Common.{take}
use Rattle.gather.specs.Findings.{ends_in}
use Rattle.gather.specs.Gathered.{IsLeastOf}
use Rattle.gather.proofs.gathering.least.Given as goal

abbrev pub invariant-loop-procedure : goal.invariant-loop-procedure
invariant-loop-procedure g l = IsLeastOf (ends_in (take l.procedure l.findings)) l.least
