use Rattle.std.proofs.Common.{sym, subst}
use Rattle.std.specs.List.{IsDistinct}
use Rattle.indexmap.proofs.CallerLemmas.{keys-with_value_at, updates-with_value_at}
use Rattle.path_sets.specs.Diagrams.{diagram_eq}
use Rattle.path_sets.proofs.EdgesLemmas.{pair_at}
use Rattle.path_sets.proofs.RootLemmas.{diagram_laws, roots}
use Rattle.path_sets.proofs.diagrams.roots.set_root.Goals as goal

pub returns-clause-roots : goal.returns-clause-roots
returns-clause-roots g c diagram here =
    let old = c.args.roots.now in
    let n = c.index_mut.result.now in
    let at = pair_at old.entries c.args.at diagram n here c.index_mut.ensures.value in
    let updates = updates-with_value_at old c.args.at c.args.number diagram_laws c.requires.unique diagram n at in
    roots old.entries _ diagram c.args.number updates.0

pub returns-clause-keys : goal.returns-clause-keys
returns-clause-keys g c = keys-with_value_at c.args.roots.now c.args.at c.args.number

pub returns-clause-unique : goal.returns-clause-unique
returns-clause-unique g c =
    subst (IsDistinct diagram_eq) (sym (keys-with_value_at c.args.roots.now c.args.at c.args.number)) c.requires.unique
