use Rattle.language.proofs.WorkedRuns.{second_fails}
use Rattle.language.proofs.verdicts.a_second_thread_of_one_procedure_fails.Goals as goal

pub returns : goal.returns
returns c = second_fails
