use Rattle.std.proofs.Common.{refl}
use Rattle.jobs.proofs.hire.AlwaysHire.may.Goals as goal

pub returns : goal.returns
returns c = refl
