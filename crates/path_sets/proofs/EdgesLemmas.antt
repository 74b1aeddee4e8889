-- The edges of all masks, and those of one mask among them.
use Rattle.std.proofs.Common.{◌≡◌, ℕ, ◌<◌, Bool, true, false, cond, List, [], ◌∷◌, ◌++◌, None, Some}
use Rattle.std.proofs.Common.{slice_get, inl, inr, refl, sym, ap, ◌∙◌, subst, true≢false, suc, zero, is_some}
use Rattle.std.specs.Map.{keys_of, values_of, lookup}
use Rattle.std.specs.List.{IsDistinct, AllByRecursion}
use Rattle.std.proofs.lemmas.Map.Keys.{IsDistinct-head, IsDistinct-tail}
use Rattle.std.proofs.lemmas.Option.{same_Some}
use Rattle.indexmap.specs.IndexMap.{set_value_at}
use Rattle.language.specs.Lists.{Member}
use Rattle.language.proofs.Members.{member_left, member_right, member_append, member_map}
use Rattle.path_sets.specs.declared.points.mask_key.MaskKey.{MaskKey}
use Rattle.path_sets.specs.Edges.{edge_at, edges_in, mask_edges, mask_key_eq}
use Rattle.path_sets.specs.Inserts.{Inserts}
use Rattle.path_sets.specs.Masks.{bits_below}
use Rattle.path_sets.proofs.InsertsLemmas.{behind, before, mapped}
use Rattle.path_sets.proofs.MaskKeyLemmas.{eq_mask_key, own_edge}

-- the masks, each with its mask
abbrev pub Groups : Type 0
Groups = List (MaskKey × ℕ)

-- a key and a value at one key make the pair at that key
pub pair_at : {K V : Type 0} (es : List (K × V)) (i : ℕ) (k : K) (v : V) → slice_get (keys_of es) i ≡ Some k →
    slice_get (values_of es) i ≡ Some v → slice_get es i ≡ Some (k, v)
pair_at [] i k v key value = absurd (true≢false (ap is_some (sym key)))
pair_at (e ∷ es) zero k v key value = ap Some (λ j. (same_Some e.0 k key j, same_Some e.1 v value j))
pair_at (e ∷ es) (suc i) k v key value = pair_at es i k v key value

-- what holds for each key holds for the one at an index
of_each : (P : MaskKey → Type 0) (gs : Groups) (i : ℕ) (p : MaskKey) (m : ℕ) → slice_get gs i ≡ Some (p, m) →
    AllByRecursion P (keys_of gs) → P p
of_each P [] i p m at all = absurd (true≢false (ap is_some (sym at)))
of_each P (g ∷ gs) zero p m at all = subst P (ap (λ h. h.0) (same_Some g (p, m) at)) all.0
of_each P (g ∷ gs) (suc i) p m at all = of_each P gs i p m at all.1

-- an edge of a mask is an edge
pub in_group : (gs : Groups) (i : ℕ) (p : MaskKey) (m b : ℕ) → slice_get gs i ≡ Some (p, m) → Member b (bits_below m 64) →
    Member (edge_at p b) (mask_edges gs)
in_group [] i p m b at h = absurd (true≢false (ap is_some (sym at)))
in_group (g ∷ gs) zero p m b at h =
    subst (λ (h : MaskKey × ℕ). Member (edge_at p b) (edges_in h.0 h.1 ++ mask_edges gs)) (sym (same_Some g (p, m) at))
    (member_left (edge_at p b) (edges_in p m) (mask_edges gs) (member_map (edge_at p) (bits_below m 64) b h))
in_group (g ∷ gs) (suc i) p m b at h =
    member_right (edge_at p b) (edges_in g.0 g.1) (mask_edges gs) (in_group gs i p m b at h)

-- a key with no mask has no edges
pub no_edge : (gs : Groups) (p : MaskKey) (b : ℕ) → b < 64 → AllByRecursion (λ k. mask_key_eq p k ≡ false) (keys_of gs) →
    Member (edge_at p b) (mask_edges gs) → ⊥
no_edge [] p b small all h = elim h [ ]
no_edge (g ∷ gs) p b small (apart, all) h =
    elim (member_append (edge_at p b) (edges_in g.0 g.1) (mask_edges gs) h) [
      | inl here' ↦ true≢false (sym (eq_mask_key p g.0 (own_edge p g.0 b g.1 small here').0) ∙ apart)
      | inr later ↦ no_edge gs p b small all later
    ]

-- an edge is in its key's mask, if no key occurs twice
pub only_in_group : (gs : Groups) (i : ℕ) (p : MaskKey) (m b : ℕ) → b < 64 → IsDistinct mask_key_eq (keys_of gs) →
    slice_get gs i ≡ Some (p, m) → Member (edge_at p b) (mask_edges gs) → Member b (bits_below m 64)
only_in_group [] i p m b small d at h = absurd (true≢false (ap is_some (sym at)))
only_in_group (g ∷ gs) zero p m b small d at h =
    let same : g ≡ (p, m) = same_Some g (p, m) at in
    let h' : Member (edge_at p b) (edges_in p m ++ mask_edges gs) =
    subst (λ (h : MaskKey × ℕ). Member (edge_at p b) (edges_in h.0 h.1 ++ mask_edges gs)) same h in
    let apart : AllByRecursion (λ k. mask_key_eq p k ≡ false) (keys_of gs) =
    subst (λ (h : MaskKey × ℕ). AllByRecursion (λ k. mask_key_eq h.0 k ≡ false) (keys_of gs)) same
    (IsDistinct-head mask_key_eq g.0 (keys_of gs) d) in
    elim (member_append (edge_at p b) (edges_in p m) (mask_edges gs) h') [
      | inl own ↦ (own_edge p p b m small own).1
      | inr later ↦ absurd (no_edge gs p b small apart later)
    ]
only_in_group (g ∷ gs) (suc i) p m b small d at h =
    elim (member_append (edge_at p b) (edges_in g.0 g.1) (mask_edges gs) h) [
      | inl first ↦ absurd (true≢false (sym (eq_mask_key g.0 p (sym (own_edge p g.0 b g.1 small first).0))
          ∙ of_each (λ k. mask_key_eq g.0 k ≡ false) gs i p m at (IsDistinct-head mask_key_eq g.0 (keys_of gs) d)))
      | inr later ↦ only_in_group gs i p m b small (IsDistinct-tail mask_key_eq g.0 (keys_of gs) d) at later
    ]

-- one more bit of a mask is one more edge
pub put_in_group : (gs : Groups) (i : ℕ) (p : MaskKey) (m w b : ℕ) → slice_get gs i ≡ Some (p, m) →
    Inserts b (bits_below m 64) (bits_below w 64) → Inserts (edge_at p b) (mask_edges gs) (mask_edges (set_value_at gs i w))
put_in_group [] i p m w b at more = absurd (true≢false (ap is_some (sym at)))
put_in_group (g ∷ gs) zero p m w b at more =
    subst (λ (h : MaskKey × ℕ). Inserts (edge_at p b) (edges_in h.0 h.1 ++ mask_edges gs)
    (edges_in h.0 w ++ mask_edges gs)) (sym (same_Some g (p, m) at))
    (before (edge_at p b) (edges_in p m) (edges_in p w) (mask_edges gs)
    (mapped (edge_at p) b (bits_below m 64) (bits_below w 64) more))
put_in_group (g ∷ gs) (suc i) p m w b at more =
    behind (edge_at p b) (edges_in g.0 g.1) (mask_edges gs) (mask_edges (set_value_at gs i w))
    (put_in_group gs i p m w b at more)

-- the same mask has the same edges
pub same_group : (gs : Groups) (i m w : ℕ) → slice_get (values_of gs) i ≡ Some m → w ≡ m →
    mask_edges (set_value_at gs i w) ≡ mask_edges gs
same_group [] i m w at same = refl
same_group (g ∷ gs) zero m w at same =
    ap (λ k. edges_in g.0 k ++ mask_edges gs) (same ∙ sym (same_Some g.1 m at))
same_group (g ∷ gs) (suc i) m w at same = ap (λ es. edges_in g.0 g.1 ++ es) (same_group gs i m w at same)

-- a key that is not found is not one of those kept
pub absent : (gs : Groups) (p : MaskKey) → lookup (mask_key_eq p) gs ≡ None →
    AllByRecursion (λ k. mask_key_eq p k ≡ false) (keys_of gs)
absent [] p h = tt
absent (g ∷ gs) p h = by (mask_key_eq p g.0) refl h (absent gs p)
  where
    by : (b : Bool) → mask_key_eq p g.0 ≡ b → cond b (Some g.1) (lookup (mask_key_eq p) gs) ≡ None →
        (lookup (mask_key_eq p) gs ≡ None → AllByRecursion (λ k. mask_key_eq p k ≡ false) (keys_of gs)) →
        AllByRecursion (λ k. mask_key_eq p k ≡ false) (keys_of (g ∷ gs))
    by true e h rest = absurd (true≢false (ap is_some h))
    by false e h rest = (e, rest h)
