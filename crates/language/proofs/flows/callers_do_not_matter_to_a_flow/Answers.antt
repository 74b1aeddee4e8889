use Rattle.language.proofs.Callers.{flow_over_callers}
use Rattle.language.proofs.flows.callers_do_not_matter_to_a_flow.Goals as goal

pub returns : goal.returns
returns c = flow_over_callers
