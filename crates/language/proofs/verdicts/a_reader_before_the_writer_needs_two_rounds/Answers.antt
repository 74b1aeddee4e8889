use Rattle.language.proofs.SmallRuns.{reader_first}
use Rattle.language.proofs.verdicts.a_reader_before_the_writer_needs_two_rounds.Goals as goal

pub returns : goal.returns
returns c = reader_first
