use Rattle.std.proofs.Common.{◌≡◌, ◌+◌, ◌*◌, Some, refl, ap, sym, ◌∙◌, inl, inr, subst, true≢false, arith}
use Rattle.std.specs.Map.{lookup}
use Rattle.std.proofs.lemmas.Option.{slice_get_within}
use Rattle.indexmap.specs.IndexMap.{keys}
use Rattle.language.specs.Lists.{Member}
use Rattle.path_sets.specs.declared.diagrams.roots.DiagramKey.{DiagramKey}
use Rattle.path_sets.specs.declared.diagrams.gathered_key.GatheredKey.{GatheredKey}
use Rattle.path_sets.specs.Batches.{masks_in}
use Rattle.path_sets.specs.Insertions.{diagram_at}
use Rattle.path_sets.specs.Diagrams.{merged_has, diagram_eq, diagram_of}
use Rattle.path_sets.specs.Edges.{edge_at, mask_edges}
use Rattle.path_sets.specs.Members.{IsEdgeThere}
use Rattle.path_sets.specs.GatheredKeys.{mask_key_at}
use Rattle.path_sets.specs.Triples.{Triple, triple}
use Rattle.path_sets.proofs.BatchLemmas.{mask_is, no_diagram, not_gathered, diagram_of_edge}
use Rattle.path_sets.proofs.GatheredKeyLemmas.{mask_key_is}
use Rattle.path_sets.proofs.RootLemmas.{key_within}
use Rattle.path_sets.proofs.MembersLemmas.{Fits, is_member, member_is}
use Rattle.path_sets.proofs.diagrams.diagram_edges.DiagramEdgesPathSet.contains.Given as given
use Rattle.path_sets.proofs.diagrams.diagram_edges.DiagramEdgesPathSet.contains.Goals as goal
use Rattle.path_sets.proofs.diagrams.diagram_edges.DiagramEdgesPathSet.contains.Goals.{After-diagram_of, In-Some}

-- each path edge that is asked for is one of words
fits : (g : given.Over) (c : After-diagram_of g) → Fits (triple c.args.entry c.args.point c.args.values)
fits g c = record { entry = omega arith; point = omega arith; values = omega arith }

-- the diagram is that of the path edge
diagram_is : (g : given.Over) (c : After-diagram_of g) → c.diagram_of.result ≡ diagram_at (triple c.args.entry c.args.point c.args.values)
diagram_is g c =
    let p = c.key_and_bit-mask_key.result.0 in
    c.diagram_of.ensures ∙ sym (diagram_of_edge (diagram_of p) p.values c.key_and_bit-mask_key.result.1 c.key_and_bit-mask_key.ensures.bit)
    ∙ ap diagram_at c.key_and_bit-mask_key.ensures.edge

-- the key at the diagram's index stands for its key
edge_is : (g : given.Over) (c : In-Some g)
    → edge_at
    (mask_key_at (keys c.args.self.now.merged.roots)
    (record { diagram = c.in-Some.diagram; values = c.key_and_bit-mask_key.result.0.values }))
    c.key_and_bit-mask_key.result.1
    ≡ triple c.args.entry c.args.point c.args.values
edge_is g c =
    let p = c.key_and_bit-mask_key.result.0 in
    let s : GatheredKey = record { diagram = c.in-Some.diagram; values = p.values } in
    ap (λ q. edge_at q c.key_and_bit-mask_key.result.1)
    (mask_key_is (keys c.args.self.now.merged.roots) s (diagram_of p) (c.in-Some.ensures.here ∙ ap Some c.diagram_of.ensures))
    ∙ c.key_and_bit-mask_key.ensures.edge

pub returns-in_default : goal.returns-in_default
returns-in_default g c =
    let s = c.args.self.now in
    let ns = s.merged.nodes.kept.keys in
    let rs = s.merged.roots.entries in
    let bs = s.gathered.batches.items in
    let x = triple c.args.entry c.args.point c.args.values in
    let none = ap (λ r. lookup (diagram_eq r) rs) (sym (diagram_is g (goal.at.returns-in_default g c).After-diagram_of))
    ∙ c.in_default.ensures.none refl in (
      λ h. absurd (true≢false (sym h)),
      λ there. absurd (no_diagram s.gathered.homes.items ns rs bs s.gathered.home s.fit.within s.merged.unique s.fit.covers x none
          (member_is ns rs (masks_in (keys s.merged.roots) bs) x there)),
    )

pub points_at-requires : goal.points_at-requires
points_at-requires g c =
    key_within c.args.self.now.merged.roots.entries c.in-Some.diagram c.diagram_of.result c.in-Some.ensures.here

pub returns-in-Some-mask : goal.returns-in-Some-mask
returns-in-Some-mask g c =
    let s = c.args.self.now in
    let ns = s.merged.nodes.kept.keys in
    let rs = s.merged.roots.entries in
    let gs = masks_in (keys s.merged.roots) s.gathered.batches.items in
    let at = goal.at.returns-in-Some-mask g c in
    let key : GatheredKey = record { diagram = c.in-Some.diagram; values = c.key_and_bit-mask_key.result.0.values } in
    let (k, own) = c.in-Some-mask.ensures.some in
    let edge = edge_is g at.In-Some in
    let known = mask_is s.gathered.homes.items ns rs _ s.gathered.home s.fit.within s.merged.unique s.fit.covers k key c.in-Some-mask.mask
    c.key_and_bit-mask_key.result.1 own c.key_and_bit-mask_key.ensures.bit in (
      λ h. is_member ns rs gs _ (fits g at.After-diagram_of) (subst (IsEdgeThere ns rs gs) edge (known.0 (sym c.has_point.ensures ∙ h))),
      λ there. c.has_point.ensures ∙ known.1 (subst (IsEdgeThere ns rs gs) (sym edge) (member_is ns rs gs _ there)),
    )

pub returns-in-None : goal.returns-in-None
returns-in-None g c =
    let s = c.args.self.now in
    let ns = s.merged.nodes.kept.keys in
    let rs = s.merged.roots.entries in
    let gs = masks_in (keys s.merged.roots) s.gathered.batches.items in
    let x = triple c.args.entry c.args.point c.args.values in
    let at = goal.at.returns-in-None g c in
    let p = c.key_and_bit-mask_key.result.0 in
    let b = c.key_and_bit-mask_key.result.1 in
    let small = c.key_and_bit-mask_key.ensures.bit in
    let key : GatheredKey = record { diagram = c.in-Some.diagram; values = p.values } in
    let edge = edge_is g at.In-Some in
    let values = ap (λ (t : Triple). t.values) c.key_and_bit-mask_key.ensures.edge in
    let same = c.has_point-in-None.ensures ∙ c.points_at.ensures c.diagram_of.result b c.in-Some.ensures.here small
    ∙ ap (λ (r : DiagramKey). merged_has ns rs (triple r.entry (64 * r.block + b) c.args.values)) c.diagram_of.ensures
    ∙ ap (λ v. merged_has ns rs (triple p.entry (64 * p.block + b) v)) (sym values)
    ∙ ap (merged_has ns rs) c.key_and_bit-mask_key.ensures.edge in (
      λ h. is_member ns rs gs x (fits g at.After-diagram_of) (inl (sym same ∙ h)),
      λ there. elim (member_is ns rs gs x there) [
        | inl merged ↦ same ∙ merged
        | inr gathered ↦
            absurd (not_gathered s.gathered.homes.items ns rs _ s.gathered.home s.fit.within s.merged.unique s.fit.covers key b
            small (slice_get_within (keys s.merged.roots) c.in-Some.diagram c.diagram_of.result c.in-Some.ensures.here)
            (c.in-None.ensures.none refl)
            (subst (λ t. Member t (mask_edges gs)) (sym edge) gathered))
      ],
    )
