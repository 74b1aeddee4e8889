use Rattle.std.proofs.Common.{◌≡◌, ◌+◌, ℕ, IfSome, Bool, true, false, Some, slice_get, length, refl, ap, sym, ◌∙◌, subst, arith}
use Rattle.std.proofs.lemmas.Bool.{OnFalse_from, OnTrue_from}
use Rattle.std.proofs.lemmas.Option.{none-some, same_Some, slice_get_within}
use Rattle.indexmap.specs.IndexMap.{keys}
use Rattle.path_sets.specs.declared.diagrams.diagram_edges.LastDiagram.{LastDiagram}
use Rattle.path_sets.specs.declared.diagrams.gathered_key.GatheredKey.{GatheredKey}
use Rattle.path_sets.specs.Batches.{masks_in}
use Rattle.path_sets.specs.Contents.{IsKeyAt, IsPlaced, whole}
use Rattle.path_sets.specs.Diagrams.{diagram_of}
use Rattle.path_sets.specs.Edges.{edge_at}
use Rattle.path_sets.specs.Inserts.{IsNewIf}
use Rattle.path_sets.specs.Members.{all_edges, PutsEdge}
use Rattle.path_sets.specs.GatheredKeys.{gathered_key, mask_key_at, mask_key_in}
use Rattle.path_sets.specs.Triples.{Triple, triple}
use Rattle.path_sets.proofs.InsertsLemmas.{count_fits, none_more_if, one_more_if}
use Rattle.path_sets.proofs.EdgesLemmas.{Groups}
use Rattle.path_sets.proofs.CoverLemmas.{longer, members_kept, members_put, members_same, was_known, was_new}
use Rattle.path_sets.proofs.GatheredKeyLemmas.{mask_key_is}
use Rattle.path_sets.proofs.MembersLemmas.{Fits, all_none_twice}
use Rattle.path_sets.proofs.InsertsLemmas.{at_error}
use Rattle.path_sets.proofs.diagrams.diagram_edges.DiagramEdges.insert_elsewhere.Given as given
use Rattle.path_sets.proofs.diagrams.diagram_edges.DiagramEdges.insert_elsewhere.Goals as goal
use Rattle.path_sets.proofs.diagrams.diagram_edges.DiagramEdges.insert_elsewhere.Goals.{After-gather, In_ok-added}

module _ (g : given.Over) (c : In_ok-added g) where
  abbrev x : Triple
  x = triple c.args.entry c.args.point c.args.values

  -- what is gathered before and after it
  abbrev old : Groups
  old = masks_in (keys c.turn_to.new.self.merged.roots) c.turn_to.new.self.gathered.batches.items

  abbrev new : Groups
  new = masks_in (keys c.turn_to.new.self.merged.roots) c.gather.new.self.batches.items

  fits : Fits x
  fits = record { entry = omega arith; point = omega arith; values = omega arith }

  abbrev key : GatheredKey
  key = gathered_key c.in-Some.last.diagram c.args.values

  -- the last diagram is that of the path edge
  diagram : slice_get (keys c.turn_to.new.self.merged.roots) c.in-Some.last.diagram ≡ Some (diagram_of c.key_and_bit-mask_key.result.0)
  diagram =
      let (last, is, entry, block) = c.in_ok-turn_to.ensures.last in
      let same = same_Some c.in-Some.last last (sym c.in-Some.is ∙ is) in
      let own = ap (λ (t : Triple). t.entry) c.key_and_bit-mask_key.ensures.edge in
      (c.turn_to.new.self.placed c.in-Some.last c.in-Some.is).0
      ∙ λ i. Some (record {
        entry = (ap (λ (l : LastDiagram). l.entry) same ∙ entry ∙ sym own) i;
        block = (ap (λ (l : LastDiagram). l.block) same ∙ block) i;
      })

  -- the key at the diagram's index stands for its key
  edge : edge_at (mask_key_at (keys c.turn_to.new.self.merged.roots) key) c.key_and_bit-mask_key.result.1 ≡ x
  edge =
      let r = diagram_of c.key_and_bit-mask_key.result.0 in
      ap (λ q. edge_at q c.key_and_bit-mask_key.result.1) (mask_key_is (keys c.turn_to.new.self.merged.roots) key r diagram)
      ∙ ap (λ (t : Triple). edge_at (mask_key_in r t.values) c.key_and_bit-mask_key.result.1) (sym c.key_and_bit-mask_key.ensures.edge)
      ∙ c.key_and_bit-mask_key.ensures.edge

  -- the members before are those that there were
  here : all_edges c.turn_to.new.self.merged.nodes.kept.keys c.turn_to.new.self.merged.roots.entries old
      ≡ all_edges c.args.self.now.merged.nodes.kept.keys c.args.self.now.merged.roots.entries
      (masks_in (keys c.args.self.now.merged.roots) c.args.self.now.gathered.batches.items)
  here = c.turn_to.ensures.members

  -- what is put in, or is there, as the result says
  puts : (b : Bool) → c.in_ok-added.added ≡ b
      → PutsEdge c.turn_to.new.self.merged.nodes.kept.keys c.turn_to.new.self.merged.roots.entries
      (edge_at (mask_key_at (keys c.turn_to.new.self.merged.roots) key) c.key_and_bit-mask_key.result.1) old new b
  puts b is = subst (PutsEdge c.turn_to.new.self.merged.nodes.kept.keys c.turn_to.new.self.merged.roots.entries
      (edge_at (mask_key_at (keys c.turn_to.new.self.merged.roots) key) c.key_and_bit-mask_key.result.1) old new)
      is c.in_ok-added.ensures.ok.puts

module _ (g : given.Over) (c : After-gather g) where
  -- the last diagram has its batch still
  placed : (l : LastDiagram) → c.turn_to.new.self.last ≡ Some l
      → IsPlaced c.turn_to.new.self.merged c.gather.new.self.homes.items c.gather.new.self.batches.items l
  placed l is =
      subst (IsPlaced c.turn_to.new.self.merged c.gather.new.self.homes.items c.gather.new.self.batches.items)
      (same_Some c.in-Some.last l (sym c.in-Some.is ∙ is))
      ((c.turn_to.new.self.placed c.in-Some.last c.in-Some.is).0, c.gather.ensures.batch)

  -- and the index of the key in it is known
  known : (l : LastDiagram) (at : ℕ) → c.turn_to.new.self.last ≡ Some l → c.gather.new.place ≡ Some at
      → IsKeyAt c.gather.new.self.batches.items l c.args.values at
  known l at is found =
      subst (λ p. IsKeyAt c.gather.new.self.batches.items p c.args.values at) (same_Some c.in-Some.last l (sym c.in-Some.is ∙ is))
      (subst (λ o. IfSome o (IsKeyAt c.gather.new.self.batches.items c.in-Some.last c.args.values)) found c.gather.ensures.place)

-- where memory is refused, the members stay
pub invariant_of-self : goal.invariant_of-self
invariant_of-self g c =
    let at = goal.at.invariant_of-self g c in
    let s = c.turn_to.new.self in
    record {
      fit = c.gather.ensures.fit;
      placed = placed g at.After-gather;
      known = known g at.After-gather;
      counted = s.counted
          ∙ ap (λ l. length (all_edges s.merged.nodes.kept.keys s.merged.roots.entries l)) (sym c.in_err-added.ensures.err);
      once = all_none_twice s.merged.nodes.kept.keys s.merged.roots.entries
          (masks_in (keys s.merged.roots) c.gather.new.self.batches.items);
    }

pub invariant_of-self-then-added : goal.invariant_of-self-then-added
invariant_of-self-then-added g c =
    let at = goal.at.invariant_of-self-then-added g c in
    let i = at.In_ok-added in
    let s = c.turn_to.new.self in
    let more =
    longer s.merged.nodes.kept.keys s.merged.roots.entries (x g i) _ (old g i) (new g i) _ (fits g i) (edge g i) refl
    (puts g i true c.if-added.true) in
    record {
      fit = c.gather.ensures.fit;
      placed = placed g at.After-gather;
      known = known g at.After-gather;
      counted = ap (λ n. n + 1) s.counted ∙ sym more;
      once = all_none_twice s.merged.nodes.kept.keys s.merged.roots.entries (new g i);
    }

pub invariant_of-self-else-added : goal.invariant_of-self-else-added
invariant_of-self-else-added g c =
    let at = goal.at.invariant_of-self-else-added g c in
    let i = at.In_ok-added in
    let s = c.turn_to.new.self in
    record {
      fit = c.gather.ensures.fit;
      placed = placed g at.After-gather;
      known = known g at.After-gather;
      counted = s.counted ∙ sym (ap length (members_same s.merged.nodes.kept.keys s.merged.roots.entries (x g i) _ (old g i) (new g i) _
          (fits g i) (edge g i) refl (puts g i false c.if-added.false)));
      once = all_none_twice s.merged.nodes.kept.keys s.merged.roots.entries (new g i);
    }

pub returns-then-added-clause-members : goal.returns-then-added-clause-members
returns-then-added-clause-members g c =
    let i = (goal.at.returns-then-added-clause-members g c).In_ok-added in
    members_put _ _ (x g i) _ (old g i) (new g i) _ (fits g i) (edge g i) (here g i) (puts g i true c.if-added.true)

pub returns-else-added-clause-members : goal.returns-else-added-clause-members
returns-else-added-clause-members g c =
    let i = (goal.at.returns-else-added-clause-members g c).In_ok-added in
    members_kept _ _ (x g i) _ (old g i) (new g i) _ (fits g i) (edge g i) (here g i) (puts g i false c.if-added.false)

pub returns-then-added-clause-len : goal.returns-then-added-clause-len
returns-then-added-clause-len g c =
    let i = (goal.at.returns-then-added-clause-len g c).In_ok-added in
    one_more_if _ _ c.in_ok-added.added c.if-added.true
    (longer _ _ (x g i) _ (old g i) (new g i) _ (fits g i) (edge g i) (here g i) (puts g i true c.if-added.true))

pub returns-else-added-clause-len : goal.returns-else-added-clause-len
returns-else-added-clause-len g c =
    let i = (goal.at.returns-else-added-clause-len g c).In_ok-added in
    none_more_if _ _ c.in_ok-added.added c.if-added.false
    (members_same _ _ (x g i) _ (old g i) (new g i) _ (fits g i) (edge g i) (here g i) (puts g i false c.if-added.false))

pub gather-requires-clause-bit : goal.gather-requires-clause-bit
gather-requires-clause-bit g c = c.key_and_bit-mask_key.ensures.bit

pub gather-requires-clause-batch : goal.gather-requires-clause-batch
gather-requires-clause-batch g c = (c.turn_to.new.self.placed c.in-Some.last c.in-Some.is).1

pub gather-requires-clause-diagram : goal.gather-requires-clause-diagram
gather-requires-clause-diagram g c =
    slice_get_within (keys c.turn_to.new.self.merged.roots) c.in-Some.last.diagram _
    (c.turn_to.new.self.placed c.in-Some.last c.in-Some.is).0

pub gather-requires-clause-fit : goal.gather-requires-clause-fit
gather-requires-clause-fit g c = c.turn_to.new.self.fit

-- whether it was there, as the result says
is_new : (g : given.Over) (c : In_ok-added g)
    → let s = c.args.self.now in
    IsNewIf (x g c) (all_edges s.merged.nodes.kept.keys s.merged.roots.entries (masks_in (keys s.merged.roots) s.gathered.batches.items))
    c.in_ok-added.added
is_new g c = (
  OnTrue_from c.in_ok-added.added _
      (λ is. was_new _ _ (x g c) _ (old g c) (new g c) _ (fits g c) (edge g c) (here g c) (puts g c true is)),
  OnFalse_from c.in_ok-added.added _
      (λ is. was_known _ _ (x g c) _ (old g c) (new g c) _ (fits g c) (edge g c) (here g c) (puts g c false is)),
)

pub returns-then-added-clause-new : goal.returns-then-added-clause-new
returns-then-added-clause-new g c = is_new g (goal.at.returns-then-added-clause-new g c).In_ok-added

pub returns-else-added-clause-new : goal.returns-else-added-clause-new
returns-else-added-clause-new g c = is_new g (goal.at.returns-else-added-clause-new g c).In_ok-added

pub unreachable-requires : goal.unreachable-requires
unreachable-requires g c = none-some c.in_ok-turn_to.ensures.last.0 (sym c.in_default.is ∙ c.in_ok-turn_to.ensures.last.1)

pub returns-in_err-turn_to-clause-err : goal.returns-in_err-turn_to-clause-err
returns-in_err-turn_to-clause-err g c = at_error c.from_residual.result c.turn_to.ensures.members

pub returns-in_err-added-clause-err : goal.returns-in_err-added-clause-err
returns-in_err-added-clause-err g c =
    let m = c.turn_to.new.self.merged in
    at_error c.from_residual-in_err-added.result
    (ap (all_edges m.nodes.kept.keys m.roots.entries) c.in_err-added.ensures.err ∙ c.turn_to.ensures.members)

pub overflow_add-self : goal.overflow_add-self
overflow_add-self g c =
    let s = c.turn_to.new.self in
    count_fits s.count (whole c.args.self.now.merged c.args.self.now.gathered.batches.items) (whole s.merged s.gathered.batches.items)
    s.counted c.turn_to.ensures.members c.requires
