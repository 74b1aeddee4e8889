use Rattle.language.proofs.WorkedRuns.{passed_values_hold}
use Rattle.language.proofs.verdicts.the_value_passed_last_lasts.Goals as goal

pub returns : goal.returns
returns c = passed_values_hold
