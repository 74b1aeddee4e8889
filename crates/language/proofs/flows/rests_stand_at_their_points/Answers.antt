use Rattle.language.proofs.RestPoints.{rest_at_point}
use Rattle.language.proofs.flows.rests_stand_at_their_points.Goals as goal

pub returns : goal.returns
returns c = rest_at_point
