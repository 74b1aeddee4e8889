-- The masks that are gathered for the diagrams, in batches; those of a diagram are in one batch.
use Rattle.std.specs.Prelude.{◌≡◌, ◌<◌, ℕ, List, [], ◌∷◌, ◌++◌, Some, length, slice_get}
use Rattle.std.specs.Map.{keys_of}
use Rattle.std.specs.Option.{option_map_or}
use Rattle.language.specs.Lists.{Member}
use Rattle.path_sets.specs.declared.diagrams.batch.Batch.{Batch}
use Rattle.path_sets.specs.declared.points.mask_key.MaskKey.{MaskKey}
use Rattle.path_sets.specs.declared.diagrams.quad.Quad.{Quad}
use Rattle.path_sets.specs.declared.diagrams.roots.DiagramKey.{DiagramKey}
use Rattle.path_sets.specs.declared.diagrams.gathered_key.GatheredKey.{GatheredKey}
use Rattle.path_sets.specs.Members.{Covers}
use Rattle.path_sets.specs.GatheredKeys.{AreWithin, masks_of}

-- the masks of the batch with this number, with their keys; none after the last
abbrev pub gathered_at : {A : Type 0} → List (Batch A) → ℕ → List (GatheredKey × ℕ)
gathered_at batches k = option_map_or (λ batch. batch.masks.entries) (slice_get batches k) []

-- the masks of all batches
abbrev pub masks_in : {A : Type 0} → List DiagramKey → List (Batch A) → List (MaskKey × ℕ)
masks_in diagrams [] = []
masks_in diagrams (batch ∷ batches) = masks_of diagrams batch.masks.entries ++ masks_in diagrams batches

-- The batches have the masks that they had.
pub record KeepMasks {A : Type 0} (old new : List (Batch A)) : Type 0 where
  pub gathered : (k : ℕ) → gathered_at new k ≡ gathered_at old k
  pub masks : (diagrams : List DiagramKey) → masks_in diagrams new ≡ masks_in diagrams old

-- the diagram at an index has the batch with this number, and the batch is there
abbrev pub HasBatch : {A : Type 0} → List ℕ → List (Batch A) → ℕ → ℕ → Type 0
HasBatch homes batches diagram k = (slice_get homes diagram ≡ Some k) × (k < length batches)

-- the batch of the diagram at an index, if it has one, has no masks
abbrev pub HasNoMasks : {A : Type 0} → List ℕ → List (Batch A) → ℕ → Type 0
HasNoMasks homes batches diagram = (k : ℕ) → slice_get homes diagram ≡ Some k → gathered_at batches k ≡ []

-- a key of a batch is one of a diagram that has this batch
abbrev pub AreHome : {A : Type 0} → List ℕ → List (Batch A) → Type 0
AreHome homes batches = (k : ℕ) (s : GatheredKey) → Member s (keys_of (gathered_at batches k)) → slice_get homes s.diagram ≡ Some k

-- the diagram of each key is there
abbrev pub AllWithin : {A : Type 0} → List DiagramKey → List (Batch A) → Type 0
AllWithin diagrams batches = (k : ℕ) → AreWithin diagrams (gathered_at batches k)

-- what the diagrams have at the keys of a batch is among what the batch has
abbrev pub CoversEach : {A : Type 0} → List Quad → List (DiagramKey × ℕ) → List (Batch A) → Type 0
CoversEach nodes roots batches = (k : ℕ) → Covers nodes roots (masks_of (keys_of roots) (gathered_at batches k))
