use Rattle.path_sets.proofs.CanonicityLemmas.{canonical}
use Rattle.path_sets.proofs.laws.equal_sets_have_one_number.Goals as goal

pub returns : goal.returns
returns c = λ nodes n m down ordered reduced once. canonical nodes down ordered reduced once n m
