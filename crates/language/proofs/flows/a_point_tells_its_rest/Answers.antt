use Rattle.language.proofs.RestPoints.{point_tells_rest}
use Rattle.language.proofs.flows.a_point_tells_its_rest.Goals as goal

pub returns : goal.returns
returns c = point_tells_rest
