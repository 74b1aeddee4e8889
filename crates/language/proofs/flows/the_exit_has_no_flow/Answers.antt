use Rattle.language.proofs.Callers.{no_flow_from_exit}
use Rattle.language.proofs.flows.the_exit_has_no_flow.Goals as goal

pub returns : goal.returns
returns c = no_flow_from_exit
