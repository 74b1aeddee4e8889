use Rattle.language.proofs.Gathered.{pair_exit}
use Rattle.language.proofs.messages.a_pair_has_nothing_left_to_run.Goals as goal

pub returns : goal.returns
returns c = pair_exit
