use Rattle.std.proofs.Common.{sym, subst, ◌≡◌, Some, slice_get}
use Rattle.path_sets.specs.Walks.{IsNumber}
use Rattle.path_sets.specs.Diagrams.{root_of}
use Rattle.path_sets.specs.declared.diagrams.roots.DiagramKey.{DiagramKey}
use Rattle.path_sets.specs.Quads.{Joins, points_of}
use Rattle.path_sets.proofs.RootLemmas.{diagram_there}
use Rattle.path_sets.proofs.TakesLemmas.{all_in_diagram, numbers_on, numbers_stay, takes_diagram}
use Rattle.path_sets.proofs.diagrams.diagrams.Diagrams.put.Given as given
use Rattle.path_sets.proofs.diagrams.diagrams.Diagrams.put.Goals as goal
use Rattle.path_sets.proofs.diagrams.diagrams.Diagrams.put.Goals.{After-set_root}
use Rattle.indexmap.specs.IndexMap.{keys}

pub union-requires-clause-inside : goal.union-requires-clause-inside
union-requires-clause-inside g c =
    let s = c.args.self.now in
    let (diagram, there) = diagram_there s.roots.entries c.args.at c.requires in
    subst (IsNumber s.nodes.kept.keys) (sym (c.root_at-root.ensures diagram there)) (s.numbers diagram.entry diagram.block)

pub invariant_of-self-2 : goal.invariant_of-self-2
invariant_of-self-2 g c =
    let s = c.args.self.now in
    let (diagram, there) = diagram_there s.roots.entries c.args.at c.requires in
    let ms = c.union.new.nodes.kept.keys in record {
      unique = c.set_root.ensures.unique;
      numbers = numbers_on ms s.roots.entries c.set_root.new.roots.entries diagram c.in_ok-number.number
          (numbers_stay s.nodes.kept.keys ms s.roots.entries c.union.ensures.keeps s.numbers) c.in_ok-number.ensures.inside
          (c.set_root.ensures.roots diagram there);
    }

-- the new diagram has the points of the old one and those of the run
joins : (g : given.Over) (c : After-set_root g) (diagram : DiagramKey)
    → slice_get (keys c.args.self.now.roots) c.args.at ≡ Some diagram
    → Joins c.args.run.now 0 (points_of c.args.self.now.nodes.kept.keys (root_of c.args.self.now.roots.entries diagram.entry diagram.block))
    (points_of c.union.new.nodes.kept.keys c.in_ok-number.number)
joins g c diagram there =
    subst (λ n. Joins c.args.run.now 0 (points_of c.args.self.now.nodes.kept.keys n)
    (points_of c.union.new.nodes.kept.keys c.in_ok-number.number)) (c.root_at-root.ensures diagram there) c.in_ok-number.ensures.joins

pub returns-clause-takes : goal.returns-clause-takes
returns-clause-takes g c diagram there =
    takes_diagram diagram c.args.run.now c.in_ok-number.number _ _ _ c.set_root.new.roots.entries c.union.ensures.keeps
    c.args.self.now.numbers (joins g (goal.at.returns-clause-takes g c).After-set_root diagram there)
    (c.set_root.ensures.roots diagram there)

pub returns-clause-all : goal.returns-clause-all
returns-clause-all g c diagram t there =
    all_in_diagram diagram c.args.run.now c.in_ok-number.number _ _ _ c.set_root.new.roots.entries c.union.ensures.keeps
    c.args.self.now.numbers (joins g (goal.at.returns-clause-all g c).After-set_root diagram there)
    (c.set_root.ensures.roots diagram there) t
