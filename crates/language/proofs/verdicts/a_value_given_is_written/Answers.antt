use Rattle.language.proofs.GivenValues.{return_and_write_holds}
use Rattle.language.proofs.verdicts.a_value_given_is_written.Goals as goal

pub returns : goal.returns
returns c = return_and_write_holds
