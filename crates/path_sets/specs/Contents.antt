-- What diagrams and the masks that are gathered for them have, said of each as a whole.
use Rattle.std.specs.Prelude.{◌≡◌, ◌<◌, ◌⊎◌, ℕ, Bool, true, List, length, Option, Some, slice_get}
use Rattle.std.specs.Map.{keys_of}
use Rattle.indexmap.specs.IndexMap.{keys}
use Rattle.language.specs.Lists.{Member}
use Rattle.path_sets.specs.declared.diagrams.batch.Batch.{Batch}
use Rattle.path_sets.specs.declared.diagrams.diagram_edges.LastDiagram.{LastDiagram}
use Rattle.path_sets.specs.declared.diagrams.diagrams.Diagrams.{Diagrams}
use Rattle.path_sets.specs.declared.diagrams.gathered_key.GatheredKey.{GatheredKey}
use Rattle.path_sets.specs.declared.diagrams.roots.DiagramKey.{DiagramKey}
use Rattle.path_sets.specs.declared.points.mask_key.MaskKey.{MaskKey}
use Rattle.path_sets.specs.Batches.{AllWithin, CoversEach, gathered_at, HasBatch, masks_in}
use Rattle.path_sets.specs.Diagrams.{TakesGiven, merged_has}
use Rattle.path_sets.specs.Edges.{edge_at}
use Rattle.path_sets.specs.GatheredKeys.{AreWithin, gathered_key, mask_key_at, masks_of}
use Rattle.path_sets.specs.Masks.{AddsPoint, bit_of}
use Rattle.path_sets.specs.Members.{all_edges, Covers, PutsEdge}
use Rattle.path_sets.specs.Triples.{Triple}

-- no key is there but those that there were, and this one
abbrev pub NoKeyBut : GatheredKey → List (GatheredKey × ℕ) → List (GatheredKey × ℕ) → Type 0
NoKeyBut key old new = (other : GatheredKey) → Member other (keys_of new) → Member other (keys_of old) ⊎ (other ≡ key)

-- the last diagram is that of this entry and this block
abbrev pub IsLastOf : ℕ → ℕ → Option LastDiagram → Type 0
IsLastOf entry block last = (diagram : LastDiagram) × (last ≡ Some diagram) × (diagram.entry ≡ entry) × (diagram.block ≡ block)

module _ {Alloc : Type 0} where
  -- the key of the last diagram and a valuation is at this index in its batch
  abbrev pub IsKeyAt : List (Batch Alloc) → LastDiagram → ℕ → ℕ → Type 0
  IsKeyAt batches last values at = slice_get (keys_of (gathered_at batches last.batch)) at ≡ Some (gathered_key last.diagram values)

  -- the keys of the diagrams, by their indexes
  abbrev pub diagrams_in : Diagrams Alloc → List DiagramKey
  diagrams_in merged = keys merged.roots

  -- whether a path edge is in the diagrams
  abbrev pub is_merged : Diagrams Alloc → Triple → Bool
  is_merged merged edge = merged_has merged.nodes.kept.keys merged.roots.entries edge

  -- these path edges are in the diagrams
  abbrev pub HasAll : (Triple → Type 0) → Diagrams Alloc → Type 0
  HasAll given merged = (edge : Triple) → given edge → is_merged merged edge ≡ true

  -- the diagrams keep what they had, and all else that they have is part of what was given
  abbrev pub DiagramsTake : (Triple → Type 0) → Diagrams Alloc → Diagrams Alloc → Type 0
  DiagramsTake given old new = TakesGiven given old.nodes.kept.keys new.nodes.kept.keys old.roots.entries new.roots.entries

  -- the masks of a batch, by the keys of masks
  abbrev pub batch_masks : Diagrams Alloc → Batch Alloc → List (MaskKey × ℕ)
  batch_masks merged batch = masks_of (diagrams_in merged) batch.masks.entries

  -- the masks of all batches
  abbrev pub all_masks : Diagrams Alloc → List (Batch Alloc) → List (MaskKey × ℕ)
  all_masks merged batches = masks_in (diagrams_in merged) batches

  -- the path edges that are in the diagrams, or in the masks of the batches
  abbrev pub whole : Diagrams Alloc → List (Batch Alloc) → List Triple
  whole merged batches = all_edges merged.nodes.kept.keys merged.roots.entries (all_masks merged batches)

  -- what the diagrams have at the keys of the masks is among the masks
  abbrev pub AreCovered : Diagrams Alloc → List (MaskKey × ℕ) → Type 0
  AreCovered merged masks = Covers merged.nodes.kept.keys merged.roots.entries masks

  -- The masks of the batches fit the diagrams: the diagram of each key is there, and what the diagrams have at the keys
  -- of a batch is among its masks.
  pub record BatchesFit (merged : Diagrams Alloc) (batches : List (Batch Alloc)) : Type 0 where
    pub within : AllWithin (diagrams_in merged) batches
    pub covers : CoversEach merged.nodes.kept.keys merged.roots.entries batches

  -- The path edge of a key and a bit was nowhere, and now is in the masks; or it was somewhere, and the masks are the
  -- same. The flag says which.
  pub record GathersEdge (merged : Diagrams Alloc) (key : GatheredKey) (bit : ℕ) (old new : List (MaskKey × ℕ)) (added : Bool)
      : Type 0 where
    pub puts : PutsEdge merged.nodes.kept.keys merged.roots.entries (edge_at (mask_key_at (diagrams_in merged) key) bit) old new added

  -- the mask has the points that the diagrams have at the key, and one point more
  abbrev pub IsFirstMask : Diagrams Alloc → GatheredKey → ℕ → ℕ → Type 0
  IsFirstMask merged key bit mask =
      (known : ℕ) × ((b : ℕ) → b < 64 → bit_of known b ≡ is_merged merged (edge_at (mask_key_at (diagrams_in merged) key) b))
      × AddsPoint bit known mask true

  -- A point may be put into a mask of the batch: it is one of 64, the diagrams of its key and of all others are there,
  -- and what the diagrams have at the keys of the batch is in its masks.
  pub record MayGather (merged : Diagrams Alloc) (key : GatheredKey) (bit : ℕ) (batch : Batch Alloc) : Type 0 where
    pub small : bit < 64
    pub diagram : key.diagram < length (diagrams_in merged)
    pub within : AreWithin (diagrams_in merged) batch.masks.entries
    pub covers : AreCovered merged (batch_masks merged batch)

  -- the diagram of an entry and a block has its index and its batch
  abbrev pub IsPlaced : Diagrams Alloc → List ℕ → List (Batch Alloc) → LastDiagram → Type 0
  IsPlaced merged homes batches last =
      (slice_get (diagrams_in merged) last.diagram ≡ Some (record { entry = last.entry; block = last.block }))
      × HasBatch homes batches last.diagram last.batch
