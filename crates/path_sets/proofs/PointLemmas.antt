-- What a point that is put into a mask does to the edges of all masks.
use Rattle.std.proofs.Common.{◌≡◌, ℕ, ◌<◌, Bool, true, false, Some, slice_get, sym}
use Rattle.std.proofs.Common.{◌∙◌, true≢false}
use Rattle.std.specs.List.{IsDistinct}
use Rattle.std.specs.Map.{keys_of, values_of}
use Rattle.indexmap.specs.IndexMap.{set_value_at}
use Rattle.path_sets.specs.declared.points.mask_key.MaskKey.{MaskKey}
use Rattle.path_sets.specs.Edges.{edge_at, mask_edges, mask_key_eq}
use Rattle.path_sets.specs.Inserts.{PutsIn}
use Rattle.path_sets.specs.Masks.{AddsPoint}
use Rattle.path_sets.proofs.MaskLemmas.{bits_known, bits_hold, put_bit}
use Rattle.path_sets.proofs.EdgesLemmas.{Groups, in_group, only_in_group, put_in_group, same_group}

-- the mask of a key decides what is an edge
pub settled : (gs : Groups) (i : ℕ) (p : MaskKey) (m w b : ℕ) → b < 64 → IsDistinct mask_key_eq (keys_of gs) →
    slice_get gs i ≡ Some (p, m) → slice_get (values_of gs) i ≡ Some m → (added : Bool) → AddsPoint b m w added →
    PutsIn (edge_at p b) (mask_edges gs) (mask_edges (set_value_at gs i w)) added
settled gs i p m w b small distinct at value true (clear, set, others) = (
  put_in_group gs i p m w b at (put_bit m w b 64 small clear set others),
  λ h. true≢false (sym (bits_known m b 64 (only_in_group gs i p m b small distinct at h)).1 ∙ clear),
)
settled gs i p m w b small distinct at value false (set, same) =
    (same_group gs i m w value same, in_group gs i p m b at (bits_hold m b 64 small set))
