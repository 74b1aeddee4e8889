use Rattle.language.proofs.SmallRuns.{writer_first}
use Rattle.language.proofs.verdicts.a_writer_before_the_reader_needs_one_round.Goals as goal

pub returns : goal.returns
returns c = writer_first
