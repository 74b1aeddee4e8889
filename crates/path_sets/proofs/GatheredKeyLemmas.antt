-- The masks that keys stand for.
use Rattle.std.proofs.Common.{◌≡◌, ◌<◌, ℕ, zero, suc, Bool, true, false, cond}
use Rattle.std.proofs.Common.{List, [], ◌∷◌, ◌++◌, length}
use Rattle.std.proofs.Common.{None, Some, map, take, slice_get, inl, inr, refl, sym, ap, ap₂, ◌∙◌}
use Rattle.std.proofs.Common.{subst, true≢false}
use Rattle.std.specs.Option.{option_map_or}
use Rattle.std.specs.List.{AllByRecursion, IsDistinct}
use Rattle.std.specs.Map.{keys_of, lookup, values_of}
use Rattle.std.proofs.lemmas.Bool.{false_from_ne_true, cases_order}
use Rattle.std.proofs.lemmas.Map.Keys.{apart_from_distinct}
use Rattle.std.proofs.lemmas.Option.{get_or_from_slice_get, none-some, same_Some, slice_get_within}
use Rattle.indexmap.specs.IndexMap.{set_value_at}
use Rattle.language.specs.Lists.{Member}
use Rattle.path_sets.specs.declared.points.mask_key.MaskKey.{MaskKey}
use Rattle.path_sets.specs.declared.diagrams.roots.DiagramKey.{DiagramKey}
use Rattle.path_sets.specs.declared.diagrams.gathered_key.GatheredKey.{GatheredKey}
use Rattle.path_sets.specs.Diagrams.{diagram_eq}
use Rattle.path_sets.specs.Edges.{edge_at, mask_edges, mask_key_eq}
use Rattle.path_sets.specs.Inserts.{PutsIn}
use Rattle.path_sets.specs.Masks.{AddsPointAt}
use Rattle.path_sets.specs.GatheredKeys.{AreWithin, mask_key_at, mask_key_in, masks_of, gathered_key_eq}
use Rattle.path_sets.specs.Triples.{Triple}
use Rattle.path_sets.proofs.InsertionLemmas.{in_mask_key, IsOf}
use Rattle.path_sets.proofs.EdgesLemmas.{pair_at}
use Rattle.path_sets.proofs.MaskKeyLemmas.{same_mask_key, same_by_two, two_self}
use Rattle.path_sets.proofs.RootLemmas.{diagram_self}
use Rattle.path_sets.proofs.PointLemmas.{settled}
use Rattle.path_sets.proofs.PlaceLemmas.{item_there}

pub gathered_key_self : (x : GatheredKey) → gathered_key_eq x x ≡ true
gathered_key_self x = two_self x.diagram x.values

pub same_gathered_key : (x y : GatheredKey) → gathered_key_eq x y ≡ true → x ≡ y
same_gathered_key x y = same_by_two (λ d v. record { diagram = d; values = v }) x.diagram x.values y.diagram y.values

module _ (diagrams : List DiagramKey) where
  -- the key of a key whose diagram is there
  pub mask_key_is : (s : GatheredKey) (r : DiagramKey) → slice_get diagrams s.diagram ≡ Some r
      → mask_key_at diagrams s ≡ mask_key_in r s.values
  mask_key_is s r at =
      ap (λ o.
      option_map_or (λ (diagram : DiagramKey). mask_key_in diagram s.values) o
      (mask_key_in (record { entry = 0; block = 0 }) s.values)) at

  -- a mask is that of the key, and the masks are those of the keys
  pub at_masks : (masks : List (GatheredKey × ℕ)) (i : ℕ) (c : GatheredKey × ℕ) → slice_get masks i ≡ Some c
      → slice_get (masks_of diagrams masks) i ≡ Some (mask_key_at diagrams c.0, c.1)
  at_masks [] i c at = absurd (none-some c at)
  at_masks (d ∷ masks) zero c at = ap (λ (x : GatheredKey × ℕ). Some (mask_key_at diagrams x.0, x.1)) (same_Some d c at)
  at_masks (d ∷ masks) (suc i) c at = at_masks masks i c at

  pub values_same : (masks : List (GatheredKey × ℕ)) → values_of (masks_of diagrams masks) ≡ values_of masks
  values_same [] = refl
  values_same (c ∷ masks) = ap (λ vs. c.1 ∷ vs) (values_same masks)

  pub set_masks : (masks : List (GatheredKey × ℕ)) (i w : ℕ)
      → masks_of diagrams (set_value_at masks i w) ≡ set_value_at (masks_of diagrams masks) i w
  set_masks [] i w = refl
  set_masks (c ∷ masks) zero w = refl
  set_masks (c ∷ masks) (suc i) w = ap (λ ps. (mask_key_at diagrams c.0, c.1) ∷ ps) (set_masks masks i w)

  pub push_masks : (masks more : List (GatheredKey × ℕ))
      → masks_of diagrams (masks ++ more) ≡ masks_of diagrams masks ++ masks_of diagrams more
  push_masks [] more = refl
  push_masks (c ∷ masks) more = ap (λ ps. (mask_key_at diagrams c.0, c.1) ∷ ps) (push_masks masks more)

  -- all masks
  pub take_masks : (masks : List (GatheredKey × ℕ)) → take (length masks) (masks_of diagrams masks) ≡ masks_of diagrams masks
  take_masks [] = refl
  take_masks (c ∷ masks) = ap (λ ps. (mask_key_at diagrams c.0, c.1) ∷ ps) (take_masks masks)

  -- a key of a key
  pub key_masks : (masks : List (GatheredKey × ℕ)) (s : GatheredKey) → Member s (keys_of masks)
      → Member (mask_key_at diagrams s) (keys_of (masks_of diagrams masks))
  key_masks [] s m = elim m [ ]
  key_masks (c ∷ masks) s (inl is) = inl (ap (mask_key_at diagrams) is)
  key_masks (c ∷ masks) s (inr later) = inr (key_masks masks s later)

  pub masks_key : (masks : List (GatheredKey × ℕ)) (p : MaskKey) → Member p (keys_of (masks_of diagrams masks))
      → (s : GatheredKey) × Member s (keys_of masks) × (p ≡ mask_key_at diagrams s)
  masks_key [] p m = elim m [ ]
  masks_key (c ∷ masks) p (inl is) = (c.0, inl refl, is)
  masks_key (c ∷ masks) p (inr later) = let (s, there, is) = masks_key masks p later in (s, inr there, is)

  gathered_key_of : (masks : List (GatheredKey × ℕ)) (p : MaskKey × ℕ) → Member p (masks_of diagrams masks)
      → (c : GatheredKey × ℕ) × Member c masks × (p ≡ (mask_key_at diagrams c.0, c.1))
  gathered_key_of [] p m = elim m [ ]
  gathered_key_of (c ∷ masks) p (inl is) = (c, inl refl, is)
  gathered_key_of (c ∷ masks) p (inr later) = let (d, there, is) = gathered_key_of masks p later in (d, inr there, is)

  -- each path edge of the masks is of one of the keys
  pub in_gathered_key : (masks : List (GatheredKey × ℕ)) (t : Triple) → Member t (mask_edges (masks_of diagrams masks))
      → (c : GatheredKey × ℕ) × Member c masks × IsOf (mask_key_at diagrams c.0, c.1) t
  in_gathered_key masks t m =
      let (p, there, is) = in_mask_key (masks_of diagrams masks) t m in
      let (c, own, same) = gathered_key_of masks p there in
      (c, own, subst (λ q. IsOf q t) same is)

  module _ (distinct : IsDistinct diagram_eq diagrams) where
    apart : (i j : ℕ) (r : DiagramKey) → i < j → slice_get diagrams i ≡ Some r → slice_get diagrams j ≡ Some r → ⊥
    apart i j r less at at' =
        true≢false
        (sym (diagram_self r)
        ∙ sym (ap₂ diagram_eq (get_or_from_slice_get diagrams i r r at) (get_or_from_slice_get diagrams j r r at'))
        ∙ apart_from_distinct diagram_eq diagrams i j r distinct less (slice_get_within diagrams j r at'))

    -- a diagram is at one index
    pub one_index : (i j : ℕ) (r : DiagramKey) → slice_get diagrams i ≡ Some r → slice_get diagrams j ≡ Some r → i ≡ j
    one_index i j r at at' = elim (cases_order i j) [
      | inl same ↦ same
      | inr ne ↦ absurd (elim ne [ inl less ↦ apart i j r less at at' | inr less ↦ apart j i r less at' at ])
    ]

    -- so keys that differ stand for masks that differ
    pub one_gathered_key : (x y : GatheredKey) → x.diagram < length diagrams → y.diagram < length diagrams
        → mask_key_at diagrams x ≡ mask_key_at diagrams y → x ≡ y
    one_gathered_key x y inside inside' same =
        let (r, at) = item_there diagrams x.diagram inside in
        let (q, at') = item_there diagrams y.diagram inside' in
        let is : mask_key_in r x.values ≡ mask_key_in q y.values = sym (mask_key_is x r at) ∙ same ∙ mask_key_is y q at' in
        let values : x.values ≡ y.values = ap (λ (p : MaskKey). p.values) is in
        let own : r ≡ q = λ j. record { entry = (is j).entry; block = (is j).block } in
        let diagram : x.diagram ≡ y.diagram = one_index x.diagram y.diagram q (at ∙ ap Some own) at' in
        λ j. record { diagram = diagram j; values = values j }

    gathered_key_apart : (x y : GatheredKey) → x.diagram < length diagrams → y.diagram < length diagrams → gathered_key_eq x y ≡ false
        → mask_key_eq (mask_key_at diagrams x) (mask_key_at diagrams y) ≡ false
    gathered_key_apart x y inside inside' differ =
        false_from_ne_true (mask_key_eq (mask_key_at diagrams x) (mask_key_at diagrams y)) (λ h.
        let same = one_gathered_key x y inside inside' (same_mask_key (mask_key_at diagrams x) (mask_key_at diagrams y) h) in
        true≢false (sym (subst (λ z. gathered_key_eq x z ≡ true) same (gathered_key_self x)) ∙ differ))

    -- a key without a mask stands for a key without one
    pub none_there : (masks : List (GatheredKey × ℕ)) (s : GatheredKey) → s.diagram < length diagrams → AreWithin diagrams masks
        → lookup (gathered_key_eq s) masks ≡ None → lookup (mask_key_eq (mask_key_at diagrams s)) (masks_of diagrams masks) ≡ None
    none_there [] s inside within none = refl
    none_there (c ∷ masks) s inside within none =
        by (gathered_key_eq s c.0) refl none (none_there masks s inside (λ k m. within k (inr m)))
      where
        by : (b : Bool) → gathered_key_eq s c.0 ≡ b → cond b (Some c.1) (lookup (gathered_key_eq s) masks) ≡ None
            → (lookup (gathered_key_eq s) masks ≡ None → lookup (mask_key_eq (mask_key_at diagrams s)) (masks_of diagrams masks) ≡ None)
            → lookup (mask_key_eq (mask_key_at diagrams s)) (masks_of diagrams (c ∷ masks)) ≡ None
        by true e h rest = absurd (none-some c.1 (sym h))
        by false e h rest =
            ap (λ b. cond b (Some c.1) (lookup (mask_key_eq (mask_key_at diagrams s)) (masks_of diagrams masks)))
            (gathered_key_apart s c.0 inside (within c.0 (inl refl)) e)
            ∙ rest h

    all_apart : (s : GatheredKey) → s.diagram < length diagrams → (masks : List (GatheredKey × ℕ)) → AreWithin diagrams masks
        → AllByRecursion (λ k. gathered_key_eq s k ≡ false) (keys_of masks)
        → AllByRecursion (λ p. mask_key_eq (mask_key_at diagrams s) p ≡ false) (keys_of (masks_of diagrams masks))
    all_apart s inside [] within all = tt
    all_apart s inside (c ∷ masks) within all = (
      gathered_key_apart s c.0 inside (within c.0 (inl refl)) all.0,
      all_apart s inside masks (λ k m. within k (inr m)) all.1,
    )

    -- no key occurs twice
    pub distinct_masks : (masks : List (GatheredKey × ℕ)) → AreWithin diagrams masks → IsDistinct gathered_key_eq (keys_of masks)
        → IsDistinct mask_key_eq (keys_of (masks_of diagrams masks))
    unfolding IsDistinct
    distinct_masks [] within d = tt
    distinct_masks (c ∷ masks) within d = (
      all_apart c.0 (within c.0 (inl refl)) masks (λ k m. within k (inr m)) d.0,
      distinct_masks masks (λ k m. within k (inr m)) d.1,
    )

-- a point that is put into a mask is put into what the masks have
pub marked_masks : (diagrams : List DiagramKey) → IsDistinct diagram_eq diagrams
    → (old new : List (GatheredKey × ℕ)) (i : ℕ) (s : GatheredKey) (bit : ℕ)
    → bit < 64 → AreWithin diagrams old → IsDistinct gathered_key_eq (keys_of old) → slice_get (keys_of old) i ≡ Some s → (added : Bool)
    → AddsPointAt i bit old new added
    → PutsIn (edge_at (mask_key_at diagrams s) bit) (mask_edges (masks_of diagrams old)) (mask_edges (masks_of diagrams new)) added
marked_masks diagrams distinct old new i s bit small within once here added marks =
    let at = pair_at old i s marks.mask here marks.was in
    subst (λ ps. PutsIn (edge_at (mask_key_at diagrams s) bit) (mask_edges (masks_of diagrams old)) (mask_edges ps) added)
    (sym (ap (masks_of diagrams) marks.is ∙ set_masks diagrams old i marks.marked))
    (settled (masks_of diagrams old) i (mask_key_at diagrams s) marks.mask marks.marked bit small
    (distinct_masks diagrams distinct old within once)
    (at_masks diagrams old i (s, marks.mask) at) (ap (λ vs. slice_get vs i) (values_same diagrams old) ∙ marks.was) added marks.marks)

-- the same keys stand for the same masks
pub keys_masks : (diagrams : List DiagramKey) (old new : List (GatheredKey × ℕ)) → keys_of new ≡ keys_of old
    → keys_of (masks_of diagrams new) ≡ keys_of (masks_of diagrams old)
keys_masks diagrams old new same = mapped_keys diagrams new ∙ ap (map (mask_key_at diagrams)) same ∙ sym (mapped_keys diagrams old)
  where
    mapped_keys : (diagrams : List DiagramKey) (masks : List (GatheredKey × ℕ))
        → keys_of (masks_of diagrams masks) ≡ map (mask_key_at diagrams) (keys_of masks)
    mapped_keys diagrams [] = refl
    mapped_keys diagrams (c ∷ masks) = ap (λ ps. mask_key_at diagrams c.0 ∷ ps) (mapped_keys diagrams masks)

-- more diagrams, at the end, leave the masks as they are
module _ (diagrams more : List DiagramKey)
    (stay : (i : ℕ) (r : DiagramKey) → slice_get diagrams i ≡ Some r → slice_get more i ≡ Some r) where
  pub still_within : (i : ℕ) → i < length diagrams → i < length more
  still_within i less = let (r, at) = item_there diagrams i less in slice_get_within more i r (stay i r at)

  pub masks_stay : (masks : List (GatheredKey × ℕ)) → AreWithin diagrams masks → masks_of more masks ≡ masks_of diagrams masks
  masks_stay [] within = refl
  masks_stay (c ∷ masks) within =
      let (r, at) = item_there diagrams c.0.diagram (within c.0 (inl refl)) in
      let head = mask_key_is more c.0 r (stay c.0.diagram r at) ∙ sym (mask_key_is diagrams c.0 r at) in
      let tail = masks_stay masks (λ k m. within k (inr m)) in
      λ j. (head j, c.1) ∷ tail j
