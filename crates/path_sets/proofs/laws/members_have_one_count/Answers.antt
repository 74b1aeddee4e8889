use Rattle.language.specs.Lists.{Member}
use Rattle.path_sets.specs.Triples.{triple}
use Rattle.path_sets.proofs.OneCountLemmas.{one_count}
use Rattle.path_sets.proofs.laws.members_have_one_count.Goals as goal

pub returns : goal.returns
returns c = λ width e p n m members. one_count (λ v. Member (triple e p v) members) width n m
