use Rattle.language.proofs.SmallRuns.{checked_write_holds}
use Rattle.language.proofs.verdicts.a_checked_write_is_never_unsafe.Goals as goal

pub returns : goal.returns
returns c = checked_write_holds
