use Rattle.indexmap.specs.IndexMap.{keys}
use Rattle.path_sets.proofs.RootLemmas.{found_if}
use Rattle.path_sets.proofs.points.seek.index_of.Goals as goal

pub returns-clause-here : goal.returns-clause-here
returns-clause-here g c =
    found_if g.K.PartialEq.eq g.met.K.Eq.laws.refl c.requires (keys c.args.map.now) c.args.key.now c.get_index_of.result
    c.get_index_of.ensures.index
