-- Each call has a target less.
use Rattle.std.proofs.Common.{length}
use Rattle.round_rewrite.proofs.writer.Writer.+draws.Given as goal

abbrev pub decreases-draws : goal.decreases-draws
decreases-draws g l = length l.xs.now
