use Rattle.scopes.proofs.FirstNames.{first_there, none_there}
use Rattle.scopes.proofs.counts.start.Goals as goal

pub returns-in-Some : goal.returns-in-Some
returns-in-Some g c =
    first_there c.args.stmt.now.at c.args.targets.now c.in-Some.target.now c.in-Some.ensures.value

pub returns-in-None : goal.returns-in-None
returns-in-None g c = none_there c.args.stmt.now.at c.args.targets.now c.in-None.ensures.value
