use Rattle.language.proofs.GivenValues.{late_value_needs_two}
use Rattle.language.proofs.verdicts.a_value_may_be_written_late.Goals as goal

pub returns : goal.returns
returns c = late_value_needs_two
