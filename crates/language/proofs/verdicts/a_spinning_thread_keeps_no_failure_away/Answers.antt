use Rattle.language.proofs.SmallRuns.{spinner_first}
use Rattle.language.proofs.verdicts.a_spinning_thread_keeps_no_failure_away.Goals as goal

pub returns : goal.returns
returns c = spinner_first
