use Rattle.path_sets.proofs.RootLemmas.{same_diagram}
use Rattle.path_sets.proofs.diagrams.diagrams.Diagrams.find.Goals as goal

pub find-requires : goal.find-requires
find-requires g c = same_diagram
