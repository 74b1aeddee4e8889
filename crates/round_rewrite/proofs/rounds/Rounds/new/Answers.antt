use Rattle.std.proofs.Common.{rules}
use Rattle.round_rewrite.proofs.rounds.Rounds.new.Goals as goal

pub returns-else-rounds-ge1-clause-some : goal.returns-else-rounds-ge1-clause-some
returns-else-rounds-ge1-clause-some c = search rules
