use Rattle.std.proofs.Common.{refl}
use Rattle.path_sets.proofs.RootLemmas.{diagram_begins, same_diagram}
use Rattle.path_sets.proofs.diagrams.roots.index_of.Goals as goal

pub find-requires : goal.find-requires
find-requires g c = same_diagram

pub returns-in_ok-insert_root-in-None-clause-stay : goal.returns-in_ok-insert_root-in-None-clause-stay
returns-in_ok-insert_root-in-None-clause-stay g c =
    diagram_begins c.args.roots.now.entries c.insert_root.new.roots.entries c.args.diagram (c.in-None.ensures.none refl)
    c.in_ok-insert_root-in-None.ensures.ok c.in_ok-insert_root-in-None.ensures.roots
