use Rattle.std.proofs.Common.{refl}
use Rattle.language.proofs.Rests.{join_done}
use Rattle.language.proofs.laws.joining_to_nothing_changes_nothing.Goals as goal

pub returns : goal.returns
returns c = λ a. (refl, join_done a)
