use Rattle.std.proofs.Common.{◌∙◌}
use Rattle.indexmap.proofs.CallerLemmas.{insert_entry-new}
use Rattle.path_sets.specs.Diagrams.{diagram_eq}
use Rattle.path_sets.proofs.RootLemmas.{roots}
use Rattle.path_sets.proofs.diagrams.roots.insert_root.Goals as goal

pub returns-clause-ok : goal.returns-clause-ok
returns-clause-ok g c =
    c.in_ok-insert.ensures.entries ∙ insert_entry-new diagram_eq c.args.roots.now c.args.diagram c.args.number c.requires

pub returns-clause-roots : goal.returns-clause-roots
returns-clause-roots g c =
    roots c.args.roots.now.entries c.insert.new.self.entries c.args.diagram c.args.number c.in_ok-insert.ensures.updates.0
