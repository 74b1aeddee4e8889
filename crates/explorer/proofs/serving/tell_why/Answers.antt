-- If there is no refusal, nothing is reported.
use Rattle.std.proofs.Common.{[], true, rules}
use Rattle.std.proofs.KnownBytes.{Appends-nil}
use Rattle.explorer.proofs.serving.tell_why.Goals as goal

pub returns-in_default : goal.returns-in_default
returns-in_default g c = ([], search rules, (true, Appends-nil _))
