-- Each call has a bit less above it.
use Rattle.round_rewrite.proofs.expression.+has_value.Given as goal

abbrev pub decreases-has_value : goal.decreases-has_value
decreases-has_value g l = l.above
