use Rattle.language.proofs.SmallRuns.{none_fail}
use Rattle.language.proofs.verdicts.no_threads_never_fail.Goals as goal

pub returns : goal.returns
returns c = none_fail
