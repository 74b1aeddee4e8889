use Rattle.std.proofs.Common.{◌≡◌, true, length, refl, ap, sym, ◌∙◌, subst, rules}
use Rattle.std.proofs.lemmas.Option.{slice_get_read}
use Rattle.indexmap.specs.IndexMap.{keys}
use Rattle.language.specs.Lists.{Member}
use Rattle.path_sets.specs.Batches.{AllWithin, CoversEach, masks_in, gathered_at}
use Rattle.path_sets.specs.Diagrams.{TakesGiven, merged_has}
use Rattle.path_sets.specs.Edges.{mask_edges}
use Rattle.path_sets.specs.Members.{all_edges, Covers}
use Rattle.path_sets.specs.GatheredKeys.{AreWithin, masks_of}
use Rattle.path_sets.specs.Triples.{Triple}
use Rattle.path_sets.proofs.BatchLemmas.{covers_merged, covers_set, members_merged, members_still, gathered_is, within_cleared}
use Rattle.path_sets.proofs.MembersLemmas.{all_none_twice}
use Rattle.path_sets.proofs.diagrams.diagram_edges.DiagramEdges.merge.Given as given
use Rattle.path_sets.proofs.diagrams.diagram_edges.DiagramEdges.merge.Goals as goal
use Rattle.path_sets.proofs.diagrams.diagram_edges.DiagramEdges.merge.Goals.{After-index, After-put_all, After-clear}

-- the batch that is put in
own : (g : given.Over) (c : After-index g)
    → gathered_at c.args.self.now.gathered.batches.items c.args.at ≡ c.index.result.now.masks.entries
own g c =
    gathered_is c.args.self.now.gathered.batches.items c.args.at c.index.result.now
    (slice_get_read c.args.self.now.gathered.batches.items _ c.args.at c.index.result.now refl c.requires c.index.ensures)

pub put_all-requires : goal.put_all-requires
put_all-requires g c =
    let s = c.args.self.now in
    subst (AreWithin (keys s.merged.roots)) (own g (goal.at.put_all-requires g c).After-index) (s.fit.within c.args.at)

module _ (g : given.Over) (c : After-put_all g)
    (is : gathered_at c.args.self.now.gathered.batches.items c.args.at ≡ c.index.result.now.masks.entries) where
  takes : let s = c.args.self.now in
      let m = c.put_all.new.merged in
      TakesGiven (λ t. Member t (mask_edges (masks_of (keys s.merged.roots) (gathered_at s.gathered.batches.items c.args.at))))
      s.merged.nodes.kept.keys m.nodes.kept.keys s.merged.roots.entries m.roots.entries
  takes =
      let s = c.args.self.now in
      let m = c.put_all.new.merged in
      subst (λ es. TakesGiven (λ t. Member t (mask_edges (masks_of (keys s.merged.roots) es))) s.merged.nodes.kept.keys m.nodes.kept.keys
      s.merged.roots.entries m.roots.entries) (sym is) c.put_all.ensures.takes

  -- the path edges stay, if all that are gathered still are
  still :
      let s = c.args.self.now in
      let m = c.put_all.new.merged in
      all_edges m.nodes.kept.keys m.roots.entries (masks_in (keys m.roots) s.gathered.batches.items)
      ≡ all_edges s.merged.nodes.kept.keys s.merged.roots.entries (masks_in (keys s.merged.roots) s.gathered.batches.items)
  still =
      let s = c.args.self.now in
      let m = c.put_all.new.merged in
      ap (λ diagrams. all_edges m.nodes.kept.keys m.roots.entries (masks_in diagrams s.gathered.batches.items)) c.put_all.ensures.keys
      ∙ members_still (keys s.merged.roots) s.gathered.batches.items c.args.at s.merged.nodes.kept.keys m.nodes.kept.keys
      s.merged.roots.entries m.roots.entries takes

  within : AllWithin (keys c.put_all.new.merged.roots) c.args.self.now.gathered.batches.items
  within =
      subst (λ diagrams. AllWithin diagrams c.args.self.now.gathered.batches.items) (sym c.put_all.ensures.keys) c.args.self.now.fit.within

  covers : CoversEach c.put_all.new.merged.nodes.kept.keys c.put_all.new.merged.roots.entries c.args.self.now.gathered.batches.items
  covers =
      let s = c.args.self.now in
      let m = c.put_all.new.merged in
      covers_merged s.gathered.homes.items s.gathered.batches.items s.merged.nodes.kept.keys m.nodes.kept.keys
      s.merged.roots.entries m.roots.entries c.args.at s.gathered.home s.fit.within s.merged.unique c.put_all.ensures.keys s.fit.covers
      takes

-- and if those of the batch no longer are
cleared : (g : given.Over) (c : After-clear g) →
    let s = c.args.self.now in
    let m = c.put_all.new.merged in
    let own = masks_of (keys s.merged.roots) (gathered_at s.gathered.batches.items c.args.at) in
    TakesGiven (λ t. Member t (mask_edges own)) s.merged.nodes.kept.keys m.nodes.kept.keys s.merged.roots.entries m.roots.entries
    → ((t : Triple) → Member t (mask_edges own) → merged_has m.nodes.kept.keys m.roots.entries t ≡ true)
    → all_edges m.nodes.kept.keys m.roots.entries (masks_in (keys m.roots) c.clear.new.self.batches.items)
    ≡ all_edges s.merged.nodes.kept.keys s.merged.roots.entries (masks_in (keys s.merged.roots) s.gathered.batches.items)
cleared g c taken done =
    let s = c.args.self.now in
    let m = c.put_all.new.merged in
    ap (λ diagrams. all_edges m.nodes.kept.keys m.roots.entries (masks_in diagrams c.clear.new.self.batches.items)) c.put_all.ensures.keys
    ∙ members_merged (keys s.merged.roots) s.gathered.batches.items c.clear.new.self.batches.items c.args.at c.clear.ensures.others
    s.merged.nodes.kept.keys m.nodes.kept.keys s.merged.roots.entries m.roots.entries c.clear.ensures.here taken done

pub invariant_of-self-in-Break-1 : goal.invariant_of-self-in-Break-1
invariant_of-self-in-Break-1 g c =
    let s = c.args.self.now in
    let m = c.put_all.new.merged in
    let at = goal.at.invariant_of-self-in-Break-1 g c in
    let p = at.After-put_all in
    let is = own g at.After-index in
    record {
      fit = record { within = within g p is; covers = covers g p is };
      counted = s.counted ∙ sym (ap length (still g p is));
      placed = search rules;
      known = search rules;
      once = all_none_twice m.nodes.kept.keys m.roots.entries (masks_in (keys m.roots) s.gathered.batches.items);
    }

pub returns-in_err-put_all-clause-members : goal.returns-in_err-put_all-clause-members
returns-in_err-put_all-clause-members g c =
    let at = goal.at.returns-in_err-put_all-clause-members g c in
    still g at.After-put_all (own g at.After-index)

pub invariant_of-self-2 : goal.invariant_of-self-2
invariant_of-self-2 g c =
    let s = c.args.self.now in
    let m = c.put_all.new.merged in
    let ns = m.nodes.kept.keys in
    let rs = m.roots.entries in
    let at = goal.at.invariant_of-self-2 g c in
    let p = at.After-put_all in
    let is = own g at.After-index in
    let bs = s.gathered.batches.items in
    let cs = c.clear.new.self.batches.items in
    record {
      fit = record {
        within = within_cleared bs cs c.args.at c.clear.ensures.others (keys m.roots) (within g p is) c.clear.ensures.here;
        covers = covers_set bs cs c.args.at c.clear.ensures.others ns rs (covers g p is)
            (subst (λ es. Covers ns rs (masks_of (keys m.roots) es)) (sym c.clear.ensures.here) (λ q bit small key has. elim key [ ]));
      };
      counted = s.counted ∙ sym (ap length (cleared g at.After-clear (takes g p is)
          (λ t h. c.in_ok-put_all.ensures.all t (subst (λ es. Member t (mask_edges (masks_of (keys s.merged.roots) es))) is h))));
      placed = search rules;
      known = search rules;
      once = all_none_twice ns rs (masks_in (keys m.roots) cs);
    }

pub returns-clause-members : goal.returns-clause-members
returns-clause-members g c =
    let s = c.args.self.now in
    let at = goal.at.returns-clause-members g c in
    let p = at.After-put_all in
    let is = own g at.After-index in
    cleared g at.After-clear (takes g p is)
    (λ t h. c.in_ok-put_all.ensures.all t (subst (λ es. Member t (mask_edges (masks_of (keys s.merged.roots) es))) is h))
