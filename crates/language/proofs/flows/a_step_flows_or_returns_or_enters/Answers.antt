use Rattle.language.proofs.StepKinds.{step_kinds}
use Rattle.language.proofs.flows.a_step_flows_or_returns_or_enters.Goals as goal

pub returns : goal.returns
returns c = step_kinds
