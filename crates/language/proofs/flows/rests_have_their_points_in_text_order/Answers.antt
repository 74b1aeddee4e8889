use Rattle.language.proofs.RestPoints.{numbered_rests}
use Rattle.language.proofs.flows.rests_have_their_points_in_text_order.Goals as goal

pub returns : goal.returns
returns c = numbered_rests
