use Rattle.resolved.proofs.Sequences.{narrow_places}
use Rattle.resolved.proofs.narrow_trees_have_narrow_valuations.Goals as goal

pub returns : goal.returns
returns c = narrow_places
