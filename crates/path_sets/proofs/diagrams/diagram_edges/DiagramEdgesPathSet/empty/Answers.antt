use Rattle.std.proofs.Common.{ap, sym, subst, length, rules}
use Rattle.indexmap.specs.IndexMap.{keys}
use Rattle.path_sets.specs.Batches.{masks_in, gathered_at}
use Rattle.path_sets.specs.Edges.{mask_edges}
use Rattle.path_sets.specs.Members.{Covers}
use Rattle.path_sets.specs.GatheredKeys.{AreWithin, masks_of}
use Rattle.path_sets.proofs.MembersLemmas.{no_members, all_none_twice}
use Rattle.path_sets.proofs.diagrams.diagram_edges.DiagramEdgesPathSet.empty.Goals as goal

pub invariant_of-result : goal.invariant_of-result
invariant_of-result g c =
    let m = c.new-2.result in
    let ns = m.nodes.kept.keys in
    let rs = m.roots.entries in
    let diagrams = keys m.roots in
    let ps = masks_in diagrams c.new.result.batches.items in
    record {
      fit = record {
        within = λ k. subst (λ bs. AreWithin diagrams (gathered_at bs k)) (sym c.new.ensures) (λ s there. elim there [ ]);
        covers = λ k. subst (λ bs. Covers ns rs (masks_of diagrams (gathered_at bs k))) (sym c.new.ensures)
            (λ p bit small key has. elim key [ ]);
      };
      counted = sym (ap length (no_members ns rs ps c.new-2.ensures (ap (λ bs. mask_edges (masks_in diagrams bs)) c.new.ensures)));
      placed = search rules;
      known = search rules;
      once = all_none_twice ns rs ps;
    }

pub returns : goal.returns
returns g c =
    let m = c.new-2.result in
    no_members m.nodes.kept.keys m.roots.entries (masks_in (keys m.roots) c.new.result.batches.items) c.new-2.ensures
    (ap (λ bs. mask_edges (masks_in (keys m.roots) bs)) c.new.ensures)
