use Rattle.std.proofs.Common.{◌≡◌, ◌+◌, ℕ, Bool, true, false, Some, slice_get, length, refl, ap, sym, ◌∙◌, subst, arith, rules}
use Rattle.std.proofs.lemmas.Bool.{OnFalse_from, OnTrue_from}
use Rattle.std.proofs.lemmas.Option.{same_Some, slice_get_within}
use Rattle.indexmap.specs.IndexMap.{keys}
use Rattle.path_sets.specs.declared.diagrams.diagram_edges.LastDiagram.{LastDiagram}
use Rattle.path_sets.specs.declared.diagrams.gathered_key.GatheredKey.{GatheredKey}
use Rattle.path_sets.specs.Batches.{masks_in}
use Rattle.path_sets.specs.Contents.{IsKeyAt, whole}
use Rattle.path_sets.specs.Diagrams.{diagram_of}
use Rattle.path_sets.specs.Edges.{edge_at}
use Rattle.path_sets.specs.Inserts.{IsNewIf}
use Rattle.path_sets.specs.Members.{all_edges, PutsEdge}
use Rattle.path_sets.specs.GatheredKeys.{gathered_key, mask_key_at}
use Rattle.path_sets.specs.Triples.{Triple, triple}
use Rattle.path_sets.proofs.InsertsLemmas.{count_fits, none_more_if, one_more_if}
use Rattle.path_sets.proofs.EdgesLemmas.{Groups}
use Rattle.path_sets.proofs.CoverLemmas.{longer, members_kept, members_put, members_same, was_known, was_new}
use Rattle.path_sets.proofs.GatheredKeyLemmas.{mask_key_is}
use Rattle.path_sets.proofs.MembersLemmas.{Fits, all_none_twice}
use Rattle.path_sets.proofs.diagrams.diagram_edges.DiagramEdgesPathSet.insert.Given as given
use Rattle.path_sets.proofs.diagrams.diagram_edges.DiagramEdgesPathSet.insert.Goals as goal
use Rattle.path_sets.proofs.diagrams.diagram_edges.DiagramEdgesPathSet.insert.Goals.{After-gather_at-added}

module _ (g : given.Over) (c : After-gather_at-added g) where
  abbrev x : Triple
  x = triple c.args.entry c.args.point c.args.values

  -- what is gathered before and after it
  abbrev old : Groups
  old = masks_in (keys c.args.self.now.merged.roots) c.args.self.now.gathered.batches.items

  abbrev new : Groups
  new = masks_in (keys c.args.self.now.merged.roots) c.gather_at-added.new.self.batches.items

  fits : Fits x
  fits = record { entry = omega arith; point = omega arith; values = omega arith }

  abbrev key : GatheredKey
  key = record { diagram = c.in-Some-last.last.diagram; values = c.key_and_bit-mask_key.result.0.values }

  -- the last diagram is that of the path edge
  diagram : slice_get (keys c.args.self.now.merged.roots) c.in-Some-last.last.diagram ≡ Some (diagram_of c.key_and_bit-mask_key.result.0)
  diagram =
      let (last, is, entry, block) = c.in-Some.ensures.some.2 in
      let same = same_Some c.in-Some-last.last last (sym c.in-Some-last.is ∙ is) in
      let own = ap (λ (t : Triple). t.entry) c.key_and_bit-mask_key.ensures.edge in
      (c.args.self.now.placed c.in-Some-last.last c.in-Some-last.is).0
      ∙ λ i. Some (record {
        entry = (ap (λ (l : LastDiagram). l.entry) same ∙ entry ∙ sym own) i;
        block = (ap (λ (l : LastDiagram). l.block) same ∙ block) i;
      })

  -- the key at the diagram's index stands for its key
  edge : edge_at (mask_key_at (keys c.args.self.now.merged.roots) key) c.key_and_bit-mask_key.result.1 ≡ x
  edge =
      ap (λ q. edge_at q c.key_and_bit-mask_key.result.1)
      (mask_key_is (keys c.args.self.now.merged.roots) key (diagram_of c.key_and_bit-mask_key.result.0) diagram)
      ∙ c.key_and_bit-mask_key.ensures.edge

  -- what is put in, or is there, as the result says
  puts : (b : Bool) → c.gather_at-added.result ≡ b
      → PutsEdge c.args.self.now.merged.nodes.kept.keys c.args.self.now.merged.roots.entries
      (edge_at (mask_key_at (keys c.args.self.now.merged.roots) key) c.key_and_bit-mask_key.result.1) old new b
  puts b is = subst (PutsEdge c.args.self.now.merged.nodes.kept.keys c.args.self.now.merged.roots.entries
      (edge_at (mask_key_at (keys c.args.self.now.merged.roots) key) c.key_and_bit-mask_key.result.1) old new)
      is c.gather_at-added.ensures.ok.puts

  -- whether it was there, as the result says
  is_new : IsNewIf x (all_edges c.args.self.now.merged.nodes.kept.keys c.args.self.now.merged.roots.entries old) c.gather_at-added.result
  is_new = (
    OnTrue_from c.gather_at-added.result _ (λ is. was_new _ _ x _ old new _ fits edge refl (puts true is)),
    OnFalse_from c.gather_at-added.result _ (λ is. was_known _ _ x _ old new _ fits edge refl (puts false is)),
  )

  -- the key of the last path edge is where it was
  known : (l : LastDiagram) (at : ℕ) → c.args.self.now.last ≡ Some l → c.args.self.now.place ≡ Some at
      → IsKeyAt c.gather_at-added.new.self.batches.items l c.args.self.now.values at
  known l at is found =
      let s = c.args.self.now in
      let same = same_Some c.in-Some-last.last l (sym c.in-Some-last.is ∙ is) in
      subst (λ (p : LastDiagram). IsKeyAt c.gather_at-added.new.self.batches.items p s.values at) same
      (ap (λ ks. slice_get ks at) c.gather_at-added.ensures.keys ∙ s.known c.in-Some-last.last at c.in-Some-last.is found)

pub invariant_of-self : goal.invariant_of-self
invariant_of-self g c =
    let i = (goal.at.invariant_of-self g c).After-gather_at-added in
    let s = c.args.self.now in
    let more =
    longer s.merged.nodes.kept.keys s.merged.roots.entries (x g i) _ (old g i) (new g i) _ (fits g i) (edge g i) refl
    (puts g i true c.if-added.true) in
    record {
      fit = c.gather_at-added.ensures.fit;
      placed = search rules;
      known = known g i;
      counted = ap (λ n. n + 1) s.counted ∙ sym more;
      once = all_none_twice s.merged.nodes.kept.keys s.merged.roots.entries (new g i);
    }

pub invariant_of-self-else-added : goal.invariant_of-self-else-added
invariant_of-self-else-added g c =
    let i = (goal.at.invariant_of-self-else-added g c).After-gather_at-added in
    let s = c.args.self.now in
    record {
      fit = c.gather_at-added.ensures.fit;
      placed = search rules;
      known = known g i;
      counted = s.counted ∙ sym (ap length (members_same s.merged.nodes.kept.keys s.merged.roots.entries (x g i) _ (old g i) (new g i) _
          (fits g i) (edge g i) refl (puts g i false c.if-added.false)));
      once = all_none_twice s.merged.nodes.kept.keys s.merged.roots.entries (new g i);
    }

pub returns-then-added-clause-members : goal.returns-then-added-clause-members
returns-then-added-clause-members g c =
    let i = (goal.at.returns-then-added-clause-members g c).After-gather_at-added in
    members_put _ _ (x g i) _ (old g i) (new g i) _ (fits g i) (edge g i) refl (puts g i true c.if-added.true)

pub returns-else-added-clause-members : goal.returns-else-added-clause-members
returns-else-added-clause-members g c =
    let i = (goal.at.returns-else-added-clause-members g c).After-gather_at-added in
    members_kept _ _ (x g i) _ (old g i) (new g i) _ (fits g i) (edge g i) refl (puts g i false c.if-added.false)

pub returns-then-added-clause-new : goal.returns-then-added-clause-new
returns-then-added-clause-new g c = is_new g (goal.at.returns-then-added-clause-new g c).After-gather_at-added

pub returns-else-added-clause-new : goal.returns-else-added-clause-new
returns-else-added-clause-new g c = is_new g (goal.at.returns-else-added-clause-new g c).After-gather_at-added

pub returns-then-added-clause-len : goal.returns-then-added-clause-len
returns-then-added-clause-len g c =
    let i = (goal.at.returns-then-added-clause-len g c).After-gather_at-added in
    one_more_if _ _ c.gather_at-added.result c.if-added.true
    (longer _ _ (x g i) _ (old g i) (new g i) _ (fits g i) (edge g i) refl (puts g i true c.if-added.true))

pub returns-else-added-clause-len : goal.returns-else-added-clause-len
returns-else-added-clause-len g c =
    let i = (goal.at.returns-else-added-clause-len g c).After-gather_at-added in
    none_more_if _ _ c.gather_at-added.result c.if-added.false
    (members_same _ _ (x g i) _ (old g i) (new g i) _ (fits g i) (edge g i) refl (puts g i false c.if-added.false))

pub gather_at-added-requires-clause-bit : goal.gather_at-added-requires-clause-bit
gather_at-added-requires-clause-bit g c = c.key_and_bit-mask_key.ensures.bit

pub gather_at-added-requires-clause-batch : goal.gather_at-added-requires-clause-batch
gather_at-added-requires-clause-batch g c = (c.args.self.now.placed c.in-Some-last.last c.in-Some-last.is).1

pub gather_at-added-requires-clause-diagram : goal.gather_at-added-requires-clause-diagram
gather_at-added-requires-clause-diagram g c =
    slice_get_within (keys c.args.self.now.merged.roots) c.in-Some-last.last.diagram _
    (c.args.self.now.placed c.in-Some-last.last c.in-Some-last.is).0

pub gather_at-added-requires-clause-here : goal.gather_at-added-requires-clause-here
gather_at-added-requires-clause-here g c =
    let s = c.args.self.now in
    s.known c.in-Some-last.last c.in-Some.at c.in-Some-last.is c.in-Some.ensures.some.0
    ∙ ap (λ v. Some (gathered_key c.in-Some-last.last.diagram v)) (c.in-Some.ensures.some.1
    ∙ sym (ap (λ (t : Triple). t.values) c.key_and_bit-mask_key.ensures.edge))

pub overflow_add-self : goal.overflow_add-self
overflow_add-self g c =
    let s = c.args.self.now in
    let edges = whole s.merged s.gathered.batches.items in
    count_fits s.count edges edges s.counted refl c.requires

pub returns-in_default-clause-new : goal.returns-in_default-clause-new
returns-in_default-clause-new g c = c.insert_elsewhere.ensures.new

pub returns-in_default-clause-len : goal.returns-in_default-clause-len
returns-in_default-clause-len g c = c.insert_elsewhere.ensures.len
