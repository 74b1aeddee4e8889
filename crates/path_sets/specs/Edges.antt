-- The path edges that masks keep.
use Rattle.std.specs.Prelude.{ℕ, ◌+◌, ◌*◌, Bool, ◌&&◌, nat_eq, List, [], ◌∷◌, ◌++◌, map}
use Rattle.path_sets.specs.declared.points.mask_key.MaskKey.{MaskKey}
use Rattle.path_sets.specs.Masks.{bits_below}
use Rattle.path_sets.specs.Triples.{Triple, triple}

-- whether two keys are of one mask
abbrev pub mask_key_eq : MaskKey → MaskKey → Bool
mask_key_eq x y = nat_eq x.entry y.entry && (nat_eq x.values y.values && nat_eq x.block y.block)

-- the path edge at a bit of the mask of a key: a block has 64 points
abbrev pub edge_at : MaskKey → ℕ → Triple
edge_at mask_key bit = triple mask_key.entry (64 * mask_key.block + bit) mask_key.values

-- the path edges of the mask of a key
abbrev pub edges_in : MaskKey → ℕ → List Triple
edges_in mask_key mask = map (edge_at mask_key) (bits_below mask 64)

-- the path edges of all masks
abbrev pub mask_edges : List (MaskKey × ℕ) → List Triple
mask_edges [] = []
mask_edges (mask ∷ masks) = edges_in mask.0 mask.1 ++ mask_edges masks
