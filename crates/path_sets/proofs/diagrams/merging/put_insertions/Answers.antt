use Rattle.std.proofs.Common.{◌≡◌, ◌∙◌, ◌<◌, Some, slice_get, length, sym, ap, subst, refl}
use Rattle.indexmap.specs.IndexMap.{keys}
use Rattle.language.specs.Lists.{Member}
use Rattle.path_sets.specs.declared.diagrams.insertion.Insertion.{Insertion}
use Rattle.path_sets.specs.declared.diagrams.roots.DiagramKey.{DiagramKey}
use Rattle.path_sets.specs.Diagrams.{InRun, TakesGiven}
use Rattle.path_sets.specs.Insertions.{InInsertions}
use Rattle.path_sets.proofs.RootLemmas.{diagram_there, same_within}
use Rattle.path_sets.proofs.InsertionLemmas.{all_on, among_on, taken_on}
use Rattle.path_sets.proofs.diagrams.merging.put_insertions.Given as given
use Rattle.path_sets.proofs.diagrams.merging.put_insertions.Goals as goal
use Rattle.path_sets.proofs.diagrams.merging.put_insertions.Goals.{After-insertion_at-diagram, After-put}
use Rattle.path_sets.proofs.PlaceLemmas.{at_index}
use Rattle.path_sets.proofs.UnionLemmas.{all_first}

-- the first insertion's diagram is there
within : (g : given.Over) (c : After-insertion_at-diagram g)
    → c.insertion_at-diagram.result.diagram < length c.args.merged.now.roots.entries
within g c =
    let insertion = c.insertion_at-diagram.result in
    c.requires insertion (c.loop-left.invariant.among insertion (at_index c.loop-left.left.now insertion 0 c.insertion_at-diagram.ensures))

pub put-requires : goal.put-requires
put-requires g c =
    let here = (goal.at.put-requires g c).After-insertion_at-diagram in
    same_within c.args.merged.now.roots.entries c.loop-left.merged.roots.entries c.insertion_at-diagram.result.diagram
    c.loop-left.invariant.same
    (within g here)

module _ (g : given.Over) (c : After-put g) (small : c.insertion_at-diagram.result.diagram < length c.args.merged.now.roots.entries) where
  own : (diagram : DiagramKey) × (slice_get (keys c.args.merged.now.roots) c.insertion_at-diagram.result.diagram ≡ Some diagram)
  own = diagram_there c.args.merged.now.roots.entries c.insertion_at-diagram.result.diagram small

  -- each insertion of the run is of its diagram
  one : (d : Insertion) → Member d c.split_at.result.0.now → d.diagram ≡ c.insertion_at-diagram.result.diagram
  one = subst (λ l. (d : Insertion) → Member d l → d.diagram ≡ c.insertion_at-diagram.result.diagram) (sym c.split_at.ensures.front)
      (all_first (λ d. d.diagram ≡ c.insertion_at-diagram.result.diagram) c.loop-left.left.now c.run_of.result
      c.insertion_at-diagram.result c.insertion_at-diagram.ensures refl c.run_of.ensures.all)

  run_put : TakesGiven (InRun own.0 c.split_at.result.0.now) c.loop-left.merged.nodes.kept.keys c.put.new.self.nodes.kept.keys
      c.loop-left.merged.roots.entries c.put.new.self.roots.entries
  run_put = c.put.ensures.takes own.0 (ap (λ ks. slice_get ks c.insertion_at-diagram.result.diagram) c.loop-left.invariant.same ∙ own.1)

  -- with the run more is taken, and nothing else
  taken : TakesGiven (InInsertions (keys c.args.merged.now.roots) c.args.insertions.now) c.args.merged.now.nodes.kept.keys
      c.put.new.self.nodes.kept.keys c.args.merged.now.roots.entries c.put.new.self.roots.entries
  taken = taken_on (keys c.args.merged.now.roots) c.args.insertions.now c.loop-left.left.now c.split_at.result.0.now c.split_at.result.1.now
      c.insertion_at-diagram.result.diagram own.0 _ c.loop-left.merged.nodes.kept.keys _ _ c.loop-left.merged.roots.entries _
      c.split_at.ensures.by_index.0 own.1 one c.loop-left.invariant.taken c.loop-left.invariant.among run_put

pub returns-in_err-put-clause-takes : goal.returns-in_err-put-clause-takes
returns-in_err-put-clause-takes g c =
    let p = (goal.at.returns-in_err-put-clause-takes g c).After-put in
    taken g p (within g (goal.at.returns-in_err-put-clause-takes g c).After-insertion_at-diagram)

pub loop-left-preserved : goal.loop-left-preserved
loop-left-preserved g c =
    let p = (goal.at.loop-left-preserved g c).After-put in
    let small = within g (goal.at.loop-left-preserved g c).After-insertion_at-diagram in
    let diagram = own g p small in
    let left = c.loop-left.left.now in
    let run = c.split_at.result.0.now in
    let more = c.split_at.result.1.now in
    let m0 = c.args.merged.now in
    let m1 = c.loop-left.merged in
    let m2 = c.put.new.self in
    let at = c.insertion_at-diagram.result.diagram in
    let i = c.loop-left.invariant in
    let there = ap (λ ks. slice_get ks at) i.same ∙ diagram.1 in
    let split = c.split_at.ensures.by_index.0 in record {
      same = c.put.ensures.keys ∙ i.same;
      taken = taken g p small;
      among =
          among_on (keys m0.roots) c.args.insertions.now left run more at diagram.0 m0.nodes.kept.keys m1.nodes.kept.keys m2.nodes.kept.keys
          m0.roots.entries m1.roots.entries m2.roots.entries split diagram.1 (one g p small) i.taken i.among (run_put g p small);
      all = all_on (keys m0.roots) c.args.insertions.now left run more at diagram.0 m0.nodes.kept.keys m1.nodes.kept.keys m2.nodes.kept.keys
          m0.roots.entries m1.roots.entries m2.roots.entries split diagram.1 (one g p small) i.taken i.among (run_put g p small) i.all
          (λ t. c.in_ok-put.ensures.all diagram.0 t there);
    }
