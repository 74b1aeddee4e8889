use Rattle.std.proofs.Common.{◌≡◌, ◌+◌, ◌*◌, true, ap, arith, sym, ◌∙◌, subst, IfOk}
use Rattle.std.specs.Map.{keys_of}
use Rattle.indexmap.specs.IndexMap.{keys}
use Rattle.language.specs.Lists.{Member}
use Rattle.language.specs.Words.{word_bits}
use Rattle.path_sets.specs.Batches.{AllWithin, masks_in}
use Rattle.path_sets.specs.Diagrams.{TakesGiven, merged_has}
use Rattle.path_sets.specs.Edges.{mask_edges}
use Rattle.path_sets.specs.Members.{all_edges}
use Rattle.path_sets.specs.Suffixes.{HasNodes}
use Rattle.path_sets.specs.Triples.{Triple, triple}
use Rattle.path_sets.proofs.PointCountLemmas.{member_nodes}
use Rattle.path_sets.proofs.diagrams.diagram_edges.DiagramEdges.nodes.Given as given
use Rattle.path_sets.proofs.diagrams.diagram_edges.DiagramEdges.nodes.Goals as goal
use Rattle.path_sets.proofs.diagrams.diagram_edges.DiagramEdges.nodes.Goals.{In_ok-merged}

-- the copy has the same diagrams
same : (g : given.Over) (c : In_ok-merged g) → keys c.in_ok-merged.merged.roots ≡ keys c.args.self.now.merged.roots
same g c = ap keys_of c.in_ok-merged.ensures.roots

pub put_batches-requires : goal.put_batches-requires
put_batches-requires g c =
    let s = c.args.self.now in
    subst (AllWithin (keys c.in_ok-merged.merged.roots)) (sym c.deref.ensures.value)
    (subst (λ diagrams. AllWithin diagrams s.gathered.batches.items)
    (sym (same g (goal.at.put_batches-requires g c).In_ok-merged)) s.fit.within)

pub returns : goal.returns
returns g c =
    let s = c.args.self.now in
    let m = c.in_ok-merged.merged in
    let o = c.put_batches.new.merged in
    let at = c.key_and_bit-mask_key in
    let is = c.new.ensures in
    let diagrams = keys s.merged.roots in
    let bs = s.gathered.batches.items in
    let gs = masks_in diagrams bs in
    let masks : masks_in (keys m.roots) c.deref.result.now ≡ gs =
    ap (masks_in (keys m.roots)) c.deref.ensures.value ∙ ap (λ ks. masks_in ks bs) (same g (goal.at.returns g c).In_ok-merged) in
    let takes = subst (λ ps. TakesGiven (λ t. Member t (mask_edges ps)) m.nodes.kept.keys o.nodes.kept.keys m.roots.entries o.roots.entries)
    masks c.in_ok-put_batches.ensures.takes in
    let all = subst (λ ps. (t : Triple) → Member t (mask_edges ps) → merged_has o.nodes.kept.keys o.roots.entries t ≡ true) masks
    c.in_ok-put_batches.ensures.all in
    subst (λ e. IfOk c.count-nodes.result (HasNodes word_bits (λ v. Member (triple e c.args.point v)
    (all_edges s.merged.nodes.kept.keys s.merged.roots.entries gs)))) is
    (member_nodes s.merged.nodes.kept.keys m.nodes.kept.keys o.nodes.kept.keys s.merged.roots.entries m.roots.entries o.roots.entries
    gs at.result.0 at.result.1 c.new.result c.args.point 0 c.count-nodes.result (omega (is, arith)) (omega arith)
    at.ensures.bit (at.ensures.edge ∙ ap (λ e. triple e c.args.point 0) (sym is))
    (λ j v small. ap (λ ns. merged_has ns m.roots.entries (triple c.new.result (64 * at.result.0.block + j) v))
    c.in_ok-merged.ensures.nodes
    ∙ ap (λ rs. merged_has s.merged.nodes.kept.keys rs (triple c.new.result (64 * at.result.0.block + j) v)) c.in_ok-merged.ensures.roots)
    takes all c.count-nodes.ensures)
