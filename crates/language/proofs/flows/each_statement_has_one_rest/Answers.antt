use Rattle.language.proofs.RestPoints.{rests_count}
use Rattle.language.proofs.flows.each_statement_has_one_rest.Goals as goal

pub returns : goal.returns
returns c = rests_count
