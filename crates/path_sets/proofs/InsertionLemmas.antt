-- Path edges that are gathered, key by key, and put in by their insertions, run by run.
use Rattle.std.proofs.Common.{◌≡◌, ℕ, ◌+◌, ◌*◌, ◌/◌, ◌%◌, ◌<◌, true, List, [], ◌++◌}
use Rattle.std.proofs.Common.{◌∷◌, Some, slice_get, length, ◌⊎◌, inl, inr, refl, sym, ap, ◌∙◌, subst, arith}
use Rattle.std.proofs.Common.{append_assoc, take}
use Rattle.std.specs.Prelude.{IsPermutation}
use Rattle.std.specs.Map.{keys_of}
use Rattle.std.proofs.lemmas.List.{take_more}
use Rattle.std.proofs.lemmas.List.Sorted.{IsPermutation-sym}
use Rattle.std.proofs.lemmas.Option.{get_or_from_slice_get, same_Some, slice_get_within}
use Rattle.language.specs.Lists.{Member}
use Rattle.language.proofs.Members.{member_append, member_left, member_right, member_map, map_member}
use Rattle.path_sets.specs.declared.diagrams.insertion.Insertion.{Insertion}
use Rattle.path_sets.specs.declared.points.mask_key.MaskKey.{MaskKey}
use Rattle.path_sets.specs.declared.diagrams.quad.Quad.{Quad}
use Rattle.path_sets.specs.declared.diagrams.roots.DiagramKey.{DiagramKey}
use Rattle.path_sets.specs.Masks.{bit_of, bits_below}
use Rattle.path_sets.specs.Triples.{Triple}
use Rattle.path_sets.specs.Edges.{edge_at, edges_in, mask_edges}
use Rattle.path_sets.specs.Diagrams.{InRun, TakesGiven, merged_has, diagram_of}
use Rattle.path_sets.specs.Insertions.{AreInsertions, InInsertions, IsInsertionOf, diagram_at}
use Rattle.path_sets.proofs.TakesLemmas.{takes_on, takes_of}
use Rattle.path_sets.proofs.MaskLemmas.{bits_known, bits_hold}
use Rattle.path_sets.proofs.EdgesLemmas.{Groups}
use Rattle.path_sets.proofs.RootLemmas.{key_within}
use Rattle.path_sets.proofs.PlaceLemmas.{reordered, last_or}

-- a path edge of a key whose point is in the mask
abbrev pub IsOf : MaskKey × ℕ → Triple → Type 0
IsOf c t =
    (t.entry ≡ c.0.entry) × (t.point / 64 ≡ c.0.block) × (t.values ≡ c.0.values) × (bit_of c.1 (t.point % 64) ≡ true)

-- a path edge of a key is in its list
own_edges : (c : MaskKey × ℕ) (t : Triple) → IsOf c t → Member t (edges_in c.0 c.1)
own_edges c t (entry, block, values, set) =
    let p = c.0 in
    let small : t.point % 64 < 64 = omega arith in
    let point : 64 * p.block + t.point % 64 ≡ t.point = omega (arith, block) in
    let same : edge_at p (t.point % 64) ≡ t = λ j. record { entry = sym entry j; point = point j; values = sym values j } in
    subst (λ k. Member k (edges_in p c.1)) same
    (member_map (edge_at p) (bits_below c.1 64) (t.point % 64) (bits_hold c.1 (t.point % 64) 64 small set))

-- and nothing else is
edges_own : (c : MaskKey × ℕ) (t : Triple) → Member t (edges_in c.0 c.1) → IsOf c t
edges_own c t h =
    let (b, there, is) = map_member (edge_at c.0) (bits_below c.1 64) t h in
    let known = bits_known c.1 b 64 there in
    let small = known.0 in
    let point : t.point ≡ 64 * c.0.block + b = ap (λ (k : Triple). k.point) is in
    let bit : t.point % 64 ≡ b = omega (arith, point, small) in (
      ap (λ (k : Triple). k.entry) is,
      omega (arith, point, small),
      ap (λ (k : Triple). k.values) is,
      ap (bit_of c.1) bit ∙ known.1,
    )

-- a path edge of one of the masks is among the edges
pub placed : (gs : Groups) (c : MaskKey × ℕ) (t : Triple) → Member c gs → IsOf c t → Member t (mask_edges gs)
placed [] c t there is = elim there [ ]
placed (g ∷ gs) c t (inl same) is =
    member_left t (edges_in g.0 g.1) (mask_edges gs) (own_edges g t (subst (λ k. IsOf k t) same is))
placed (g ∷ gs) c t (inr later) is = member_right t (edges_in g.0 g.1) (mask_edges gs) (placed gs c t later is)

-- and each of the edges is of one of the masks
pub in_mask_key : (gs : Groups) (t : Triple) → Member t (mask_edges gs) → (c : MaskKey × ℕ) × Member c gs × IsOf c t
in_mask_key [] t h = elim h [ ]
in_mask_key (g ∷ gs) t h = elim (member_append t (edges_in g.0 g.1) (mask_edges gs) h) [
  | inl own ↦ (g, inl refl, edges_own g t own)
  | inr later ↦ let r = in_mask_key gs t later in (r.0, inr r.1, r.2)
]

-- the edges of masks and of more masks are the edges of all of them
pub edges_append : (gs hs : Groups) → mask_edges (gs ++ hs) ≡ mask_edges gs ++ mask_edges hs
edges_append [] hs = refl
edges_append (g ∷ gs) hs =
    ap (λ es. edges_in g.0 g.1 ++ es) (edges_append gs hs) ∙ sym (append_assoc (edges_in g.0 g.1) (mask_edges gs) (mask_edges hs))

-- insertions in another order are those of the same masks
pub insertions_reordered : (diagrams : List DiagramKey) (gs : Groups) (cs ds : List Insertion) → IsPermutation cs ds
    → AreInsertions diagrams gs cs
    → AreInsertions diagrams gs ds
insertions_reordered diagrams gs cs ds order are = record {
  each = λ p there. let (c, m, is) = are.each p there in (c, reordered cs ds c order m, is);
  no_more = λ d there. are.no_more d (reordered ds cs d (IsPermutation-sym cs ds order) there);
}

-- the path edges of insertions are those of their masks
module _ (diagrams : List DiagramKey) (gs : Groups) (cs : List Insertion) (are : AreInsertions diagrams gs cs) where
  pub of_insertions : (t : Triple) → InInsertions diagrams cs t → Member t (mask_edges gs)
  of_insertions t (c, there, diagram, values, set) =
      let (p, m, (at, whole, mask)) = are.no_more c there in
      let same : diagram_at t ≡ diagram_of p.0 = same_Some (diagram_at t) (diagram_of p.0) (sym diagram ∙ at) in
      placed gs p t m (
        ap (λ (r : DiagramKey). r.entry) same,
        ap (λ (r : DiagramKey). r.block) same,
        sym values ∙ whole,
        ap (λ k. bit_of k (t.point % 64)) (sym mask) ∙ set,
      )

  pub in_insertions : (t : Triple) → Member t (mask_edges gs) → InInsertions diagrams cs t
  in_insertions t h =
      let (p, m, (entry, block, values, set)) = in_mask_key gs t h in
      let (c, there, (at, whole, mask)) = are.each p m in
      let same : diagram_of p.0 ≡ diagram_at t = λ j. record { entry = sym entry j; block = sym block j } in
      (c, there, at ∙ ap Some same, whole ∙ sym values, ap (λ k. bit_of k (t.point % 64)) mask ∙ set)

-- and each has its diagram
pub insertions_within : (rs : List (DiagramKey × ℕ)) (gs : Groups) (cs : List Insertion) → AreInsertions (keys_of rs) gs cs
    → (c : Insertion) → Member c cs → c.diagram < length rs
insertions_within rs gs cs are c there = let (p, m, is) = are.no_more c there in key_within rs c.diagram (diagram_of p.0) is.0

-- the insertions of more diagrams, and of one more key
module _ (ks ls : List DiagramKey) (gs : Groups) (cs : List Insertion) (p : MaskKey × ℕ) (c : Insertion)
    (stay : (i : ℕ) (diagram : DiagramKey) → slice_get ks i ≡ Some diagram → slice_get ls i ≡ Some diagram) (are : AreInsertions ks gs cs)
    (is : IsInsertionOf ls p c) where
  one_more : AreInsertions ls (gs ++ p ∷ []) (cs ++ c ∷ [])
  one_more = record {
    each = λ q there. elim (last_or gs p q there) [
      | inl was ↦ let (d, m, own) = are.each q was in
          (d, member_left d cs (c ∷ []) m, (stay d.diagram (diagram_of q.0) own.0, own.1, own.2))
      | inr same ↦ (c, member_right c cs (c ∷ []) (inl refl), subst (λ r. IsInsertionOf ls r c) (sym same) is)
    ];
    no_more = λ d there. elim (last_or cs c d there) [
      | inl was ↦ let (q, m, own) = are.no_more d was in
          (q, member_left q gs (p ∷ []) m, (stay d.diagram (diagram_of q.0) own.0, own.1, own.2))
      | inr same ↦ (p, member_right p gs (p ∷ []) (inl refl), subst (IsInsertionOf ls p) (sym same) is)
    ];
  }

-- the first items of a list, with the next one
next_item : {A : Type 0} (xs : List A) (i : ℕ) (x : A) → slice_get xs i ≡ Some x → take i xs ++ x ∷ [] ≡ take (i + 1) xs
next_item xs i x at =
    ap (λ y. take i xs ++ y ∷ []) (sym (get_or_from_slice_get xs i x x at)) ∙ sym (take_more xs i x (slice_get_within xs i x at))

-- the insertions of the first masks, with that of the next one
pub next_insertion : (ks ls : List DiagramKey) (gs : Groups) (i : ℕ) (cs ds : List Insertion) (p : MaskKey × ℕ) (c : Insertion)
    → slice_get gs i ≡ Some p
    → ds ≡ cs ++ c ∷ []
    → ((k : ℕ) (diagram : DiagramKey) → slice_get ks k ≡ Some diagram → slice_get ls k ≡ Some diagram)
    → AreInsertions ks (take i gs) cs
    → IsInsertionOf ls p c
    → AreInsertions ls (take (i + 1) gs) ds
next_insertion ks ls gs i cs ds p c at more stay are is =
    subst (λ xs. AreInsertions ls xs ds) (next_item gs i p at)
    (subst (AreInsertions ls (take i gs ++ p ∷ [])) (sym more) (one_more ks ls (take i gs) cs p c stay are is))

-- the path edges of a run are those of its diagram by its insertions
module _ (diagrams : List DiagramKey) (at : ℕ) (diagram : DiagramKey) (run : List Insertion) (own : slice_get diagrams at ≡ Some diagram)
    (one : (c : Insertion) → Member c run → c.diagram ≡ at) where
  pub of_run : (t : Triple) → InRun diagram run t → InInsertions diagrams run t
  of_run t (entry, block, (c, there, values, set)) =
      let same : diagram ≡ diagram_at t = λ j. record { entry = sym entry j; block = sym block j } in
      (c, there, ap (slice_get diagrams) (one c there) ∙ own ∙ ap Some same, omega (arith, values), set)

  pub in_run : (t : Triple) → InInsertions diagrams run t → InRun diagram run t
  in_run t (c, there, is, values, set) =
      let same : diagram_at t ≡ diagram = same_Some (diagram_at t) diagram (sym is ∙ ap (slice_get diagrams) (one c there) ∙ own) in
      (ap (λ (r : DiagramKey). r.entry) same, ap (λ (r : DiagramKey). r.block) same, (c, there, omega (arith, values), set))

-- those of two parts
pub parts : (diagrams : List DiagramKey) (run more : List Insertion) (t : Triple) → InInsertions diagrams (run ++ more) t
    → InInsertions diagrams run t ⊎ InInsertions diagrams more t
parts diagrams run more t (c, there, diagram, values, set) = elim (member_append c run more there) [
  | inl first ↦ inl (c, first, diagram, values, set)
  | inr later ↦ inr (c, later, diagram, values, set)
]

-- a run of what is left is put in, and the rest stays left
module _ (diagrams : List DiagramKey) (insertions left run more : List Insertion) (at : ℕ) (diagram : DiagramKey) (ns0 ns1 ns2 : List Quad)
    (rs0 rs1 rs2 : List (DiagramKey × ℕ)) (split : left ≡ run ++ more) (own : slice_get diagrams at ≡ Some diagram)
    (one : (c : Insertion) → Member c run → c.diagram ≡ at)
    (taken : TakesGiven (InInsertions diagrams insertions) ns0 ns1 rs0 rs1)
    (among : (c : Insertion) → Member c left → Member c insertions)
    (put : TakesGiven (InRun diagram run) ns1 ns2 rs1 rs2) where
  run_among : (t : Triple) → InRun diagram run t → InInsertions diagrams insertions t
  run_among t h =
      let (c, there, is, values, set) = of_run diagrams at diagram run own one t h in
      (c, among c (subst (Member c) (sym split) (member_left c run more there)), is, values, set)

  pub taken_on : TakesGiven (InInsertions diagrams insertions) ns0 ns2 rs0 rs2
  taken_on = takes_on (InInsertions diagrams insertions) ns0 ns1 ns2 rs0 rs1 rs2 taken
      (takes_of (InRun diagram run) (InInsertions diagrams insertions) ns1 ns2 rs1 rs2 run_among put)

  pub among_on : (c : Insertion) → Member c more → Member c insertions
  among_on c h = among c (subst (Member c) (sym split) (member_right c run more h))

  pub all_on : ((t : Triple) → InInsertions diagrams insertions t → (merged_has ns1 rs1 t ≡ true) ⊎ InInsertions diagrams left t)
      → ((t : Triple) → InRun diagram run t → merged_has ns2 rs2 t ≡ true)
      → (t : Triple) → InInsertions diagrams insertions t → (merged_has ns2 rs2 t ≡ true) ⊎ InInsertions diagrams more t
  all_on all done t h = elim (all t h) [
    | inl merged ↦ inl (put.kept t merged)
    | inr still ↦ elim (parts diagrams run more t (subst (λ l. InInsertions diagrams l t) split still)) [
      | inl now ↦ inl (done t (in_run diagrams at diagram run own one t now))
      | inr later ↦ inr later
    ]
  ]
