use Rattle.std.proofs.Common.{ap, sym, ◌∙◌, subst}
use Rattle.path_sets.specs.Masks.{bit_of}
use Rattle.path_sets.specs.Quads.{points_of}
use Rattle.path_sets.specs.Walks.{IsNumber}
use Rattle.path_sets.proofs.PointCountLemmas.{bit_at_point}
use Rattle.path_sets.proofs.RootLemmas.{diagram_there}
use Rattle.path_sets.proofs.diagrams.diagrams.Diagrams.points_at.Goals as goal

pub points-requires : goal.points-requires
points-requires g c =
    let s = c.args.self.now in
    let (diagram, there) = diagram_there s.roots.entries c.args.at c.requires in
    subst (IsNumber s.nodes.kept.keys) (sym (c.root_at.ensures diagram there)) (s.numbers diagram.entry diagram.block)

pub returns : goal.returns
returns g c diagram bit there small =
    let s = c.args.self.now in
    ap (λ m. bit_of m bit) c.points.ensures
    ∙ ap (λ k. bit_of (points_of s.nodes.kept.keys k c.args.values) bit) (c.root_at.ensures diagram there)
    ∙ sym (bit_at_point s.nodes.kept.keys s.roots.entries diagram.entry diagram.block bit c.args.values small)
