use Rattle.summaries.proofs.Quiet.{is_exact}
use Rattle.summaries.proofs.laws.a_quiet_table_has_what_is_reached.Goals as goal

pub returns : goal.returns
returns g c = λ graph q f edges sound complete none_pending. is_exact graph q f edges complete none_pending sound
