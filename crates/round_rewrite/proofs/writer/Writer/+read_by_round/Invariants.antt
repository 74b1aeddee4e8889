-- Each call is for a round below.
use Rattle.round_rewrite.proofs.writer.Writer.+read_by_round.Given as goal

abbrev pub decreases-read_by_round : goal.decreases-read_by_round
decreases-read_by_round g l = l.round
