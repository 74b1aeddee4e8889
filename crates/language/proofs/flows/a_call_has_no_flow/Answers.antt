use Rattle.language.proofs.Callers.{no_flow_from_call}
use Rattle.language.proofs.flows.a_call_has_no_flow.Goals as goal

pub returns : goal.returns
returns c = no_flow_from_call
