use Rattle.language.proofs.Rests.{rest_behind}
use Rattle.language.proofs.laws.what_follows_a_block_follows_its_rests.Goals as goal

pub returns : goal.returns
returns c = rest_behind
