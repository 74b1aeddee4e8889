use Rattle.std.proofs.Common.{sym, subst}
use Rattle.indexmap.specs.IndexMap.{keys}
use Rattle.language.specs.Lists.{Member}
use Rattle.path_sets.specs.Triples.{Triple}
use Rattle.path_sets.specs.Edges.{mask_edges}
use Rattle.path_sets.specs.Insertions.{AreInsertions, InInsertions}
use Rattle.path_sets.specs.GatheredKeys.{masks_of}
use Rattle.path_sets.proofs.InsertionLemmas.{insertions_reordered, insertions_within, in_insertions, of_insertions}
use Rattle.path_sets.proofs.TakesLemmas.{takes_of}
use Rattle.path_sets.proofs.diagrams.merging.put_all.Given as given
use Rattle.path_sets.proofs.diagrams.merging.put_all.Goals as goal
use Rattle.path_sets.proofs.diagrams.merging.put_all.Goals.{After-deref}
use Rattle.std.proofs.lemmas.Result.{on_ok_weaker}

-- the insertions are those of the masks after they are sorted too
sorted : (g : given.Over) (c : After-deref g)
    → AreInsertions (keys c.args.merged.now.roots) (masks_of (keys c.args.merged.now.roots) c.args.masks.now.entries) c.deref.result.now
sorted g c =
    let ks = keys c.args.merged.now.roots in
    let gs = masks_of ks c.args.masks.now.entries in
    subst (AreInsertions ks gs) (sym c.deref.ensures.value)
    (insertions_reordered ks gs c.in_ok-insertions.insertions.items c.sort.new.insertions.items c.sort.ensures
    (c.in_ok-insertions.ensures ks c.requires))

pub put_insertions-requires : goal.put_insertions-requires
put_insertions-requires g c =
    let m = c.args.merged.now in
    insertions_within m.roots.entries (masks_of (keys m.roots) c.args.masks.now.entries) c.deref.result.now
    (sorted g (goal.at.put_insertions-requires g c).After-deref)

pub returns-clause-takes : goal.returns-clause-takes
returns-clause-takes g c =
    let m = c.args.merged.now in
    let n = c.put_insertions.new.merged in
    let ks = keys m.roots in
    let gs = masks_of ks c.args.masks.now.entries in
    let insertions = c.deref.result.now in
    takes_of (InInsertions ks insertions)
    (λ (t : Triple). Member t (mask_edges gs)) m.nodes.kept.keys n.nodes.kept.keys m.roots.entries n.roots.entries
    (of_insertions ks gs insertions (sorted g (goal.at.returns-clause-takes g c).After-deref)) c.put_insertions.ensures.takes

pub returns-clause-all : goal.returns-clause-all
returns-clause-all g c =
    let ks = keys c.args.merged.now.roots in
    let gs = masks_of ks c.args.masks.now.entries in
    let insertions = c.deref.result.now in
    on_ok_weaker c.put_insertions.result
    (λ all t h. all t (in_insertions ks gs insertions (sorted g (goal.at.returns-clause-all g c).After-deref) t h))
    c.put_insertions.ensures.all
