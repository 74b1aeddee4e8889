-- Each call is for a bit below.
use Rattle.round_rewrite.proofs.cores.+carry.Given as goal

abbrev pub decreases-carry : goal.decreases-carry
decreases-carry g l = l.number
