use Rattle.std.proofs.Common.{◌≡◌, length, ap, sym, ◌∙◌, subst, rules}
use Rattle.indexmap.specs.IndexMap.{keys}
use Rattle.path_sets.specs.Batches.{CoversEach, masks_in}
use Rattle.path_sets.specs.Members.{all_edges}
use Rattle.path_sets.proofs.BatchLemmas.{covers_stay, members_as_they_were, within_stay}
use Rattle.path_sets.proofs.MembersLemmas.{all_none_twice}
use Rattle.path_sets.proofs.diagrams.diagram_edges.DiagramEdges.settle.Given as given
use Rattle.path_sets.proofs.diagrams.diagram_edges.DiagramEdges.settle.Goals as goal
use Rattle.path_sets.proofs.diagrams.diagram_edges.DiagramEdges.settle.Goals.{After-settle}

module _ (g : given.Over) (c : After-settle g) where
  covers : CoversEach c.settle.new.self.nodes.kept.keys c.settle.new.self.roots.entries c.args.self.now.gathered.batches.items
  covers =
      let s = c.args.self.now in
      let m = c.settle.new.self in
      let bs = s.gathered.batches.items in
      subst (λ n. CoversEach n.kept.keys m.roots.entries bs) (sym c.settle.ensures.nodes)
      (covers_stay s.merged.nodes.kept.keys s.merged.roots.entries m.roots.entries c.settle.ensures.stay bs s.fit.within s.fit.covers)

  same : all_edges c.settle.new.self.nodes.kept.keys c.settle.new.self.roots.entries
      (masks_in (keys c.settle.new.self.roots) c.args.self.now.gathered.batches.items)
      ≡ all_edges c.args.self.now.merged.nodes.kept.keys c.args.self.now.merged.roots.entries
      (masks_in (keys c.args.self.now.merged.roots) c.args.self.now.gathered.batches.items)
  same =
      let s = c.args.self.now in
      let m = c.settle.new.self in
      let bs = s.gathered.batches.items in
      ap (λ n. all_edges n.kept.keys m.roots.entries (masks_in (keys m.roots) bs)) c.settle.ensures.nodes
      ∙ members_as_they_were s.merged.nodes.kept.keys s.merged.roots.entries m.roots.entries c.settle.ensures.stay bs s.fit.within

pub invariant_of-self : goal.invariant_of-self
invariant_of-self g c =
    let i = (goal.at.invariant_of-self g c).After-settle in
    let s = c.args.self.now in
    let m = c.settle.new.self in
    let bs = s.gathered.batches.items in
    record {
      fit = record {
        within = within_stay s.merged.nodes.kept.keys s.merged.roots.entries m.roots.entries c.settle.ensures.stay bs s.fit.within;
        covers = covers g i;
      };
      counted = s.counted ∙ sym (ap length (same g i));
      placed = search rules;
      known = search rules;
      once = all_none_twice m.nodes.kept.keys m.roots.entries (masks_in (keys m.roots) bs);
    }

pub returns-clause-members : goal.returns-clause-members
returns-clause-members g c = same g (goal.at.returns-clause-members g c).After-settle
