use Rattle.language.proofs.Standing.{flow_stays}
use Rattle.language.proofs.flows.a_flow_stays_in_its_body.Goals as goal

pub returns : goal.returns
returns c = flow_stays
