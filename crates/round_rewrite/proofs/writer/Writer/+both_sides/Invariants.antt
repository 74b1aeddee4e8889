-- Each call has a target less.
use Rattle.std.proofs.Common.{length}
use Rattle.round_rewrite.proofs.writer.Writer.+both_sides.Given as goal

abbrev pub decreases-both_sides : goal.decreases-both_sides
decreases-both_sides g l = length l.xs.now
