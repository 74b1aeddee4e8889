use Rattle.std.proofs.Common.{◌≡◌, length, ap, sym, ◌∙◌, rules}
use Rattle.std.proofs.lemmas.Option.{none-some}
use Rattle.indexmap.specs.IndexMap.{keys}
use Rattle.path_sets.specs.Batches.{masks_in}
use Rattle.path_sets.specs.Contents.{BatchesFit}
use Rattle.path_sets.specs.Members.{all_edges}
use Rattle.path_sets.proofs.BatchLemmas.{covers_as, within_as}
use Rattle.path_sets.proofs.MembersLemmas.{all_none_twice}
use Rattle.path_sets.proofs.diagrams.diagram_edges.DiagramEdges.look_up.Given as given
use Rattle.path_sets.proofs.diagrams.diagram_edges.DiagramEdges.look_up.Goals as goal
use Rattle.path_sets.proofs.diagrams.diagram_edges.DiagramEdges.look_up.Goals.{After-batch_of}

-- whatever batch the diagram got, what is gathered stays
module _ (g : given.Over) (c : After-batch_of g) where
  fit : BatchesFit c.settle.new.self.merged c.batch_of.new.self.batches.items
  fit =
      let s = c.settle.new.self in
      let same = c.batch_of.ensures.keep.gathered in record {
        within = within_as (keys s.merged.roots) s.gathered.batches.items _ same s.fit.within;
        covers = covers_as s.merged.nodes.kept.keys s.merged.roots.entries s.gathered.batches.items _ same s.fit.covers;
      }

  counted : let s = c.settle.new.self in
      s.count ≡ length (all_edges s.merged.nodes.kept.keys s.merged.roots.entries
      (masks_in (keys s.merged.roots) c.batch_of.new.self.batches.items))
  counted =
      let s = c.settle.new.self in
      s.counted ∙ sym (ap (λ masks. length (all_edges s.merged.nodes.kept.keys s.merged.roots.entries masks))
      (c.batch_of.ensures.keep.masks (keys s.merged.roots)))

pub invariant_of-self : goal.invariant_of-self
invariant_of-self g c =
    let i = (goal.at.invariant_of-self g c).After-batch_of in
    let s = c.settle.new.self in record {
      fit = fit g i;
      placed = search rules;
      known = search rules;
      counted = counted g i;
      once = all_none_twice s.merged.nodes.kept.keys s.merged.roots.entries
          (masks_in (keys s.merged.roots) c.batch_of.new.self.batches.items);
    }

pub invariant_of-self-2 : goal.invariant_of-self-2
invariant_of-self-2 g c =
    let i = (goal.at.invariant_of-self-2 g c).After-batch_of in
    let s = c.settle.new.self in record {
      fit = fit g i;
      placed = search rules;
      known = λ l i is at. absurd (none-some i at);
      counted = counted g i;
      once = all_none_twice s.merged.nodes.kept.keys s.merged.roots.entries
          (masks_in (keys s.merged.roots) c.batch_of.new.self.batches.items);
    }
