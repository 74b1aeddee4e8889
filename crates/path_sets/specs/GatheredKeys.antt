-- The keys of gathered masks: a diagram by its index, and a valuation.
use Rattle.std.specs.Prelude.{◌<◌, ℕ, Bool, ◌&&◌, nat_eq, List, [], ◌∷◌, length, slice_get}
use Rattle.std.specs.Option.{option_map_or}
use Rattle.std.specs.Map.{keys_of}
use Rattle.language.specs.Lists.{Member}
use Rattle.path_sets.specs.declared.points.mask_key.MaskKey.{MaskKey}
use Rattle.path_sets.specs.declared.diagrams.roots.DiagramKey.{DiagramKey}
use Rattle.path_sets.specs.declared.diagrams.gathered_key.GatheredKey.{GatheredKey}

-- the key of a diagram, by its index, and a valuation
abbrev pub gathered_key : ℕ → ℕ → GatheredKey
gathered_key diagram values = record { diagram = diagram; values = values }

-- whether two keys are the same
abbrev pub gathered_key_eq : GatheredKey → GatheredKey → Bool
gathered_key_eq x y = nat_eq x.diagram y.diagram && nat_eq x.values y.values

-- the key of a mask, by its diagram and its valuation
abbrev pub mask_key_in : DiagramKey → ℕ → MaskKey
mask_key_in diagram values = record { entry = diagram.entry; values = values; block = diagram.block }

-- the key of a mask, by the key under which it is gathered; if its diagram is not there, some other key
abbrev pub mask_key_at : List DiagramKey → GatheredKey → MaskKey
mask_key_at diagrams key =
    option_map_or (λ diagram.
    mask_key_in diagram key.values) (slice_get diagrams key.diagram) (mask_key_in (record { entry = 0; block = 0 }) key.values)

-- gathered masks by the keys of masks
abbrev pub masks_of : List DiagramKey → List (GatheredKey × ℕ) → List (MaskKey × ℕ)
masks_of diagrams [] = []
masks_of diagrams (mask ∷ masks) = (mask_key_at diagrams mask.0, mask.1) ∷ masks_of diagrams masks

-- the diagram of each key is there
abbrev pub AreWithin : List DiagramKey → List (GatheredKey × ℕ) → Type 0
AreWithin diagrams masks = (s : GatheredKey) → Member s (keys_of masks) → s.diagram < length diagrams
