-- Insertions: masks that are to be put into the diagrams.
use Rattle.std.specs.Prelude.{◌≡◌, ◌/◌, ◌%◌, ℕ, true, List, Some, slice_get}
use Rattle.std.specs.Map.{keys_of}
use Rattle.language.specs.Lists.{Member}
use Rattle.path_sets.specs.declared.diagrams.insertion.Insertion.{Insertion}
use Rattle.path_sets.specs.declared.points.mask_key.MaskKey.{MaskKey}
use Rattle.path_sets.specs.declared.diagrams.roots.DiagramKey.{DiagramKey}
use Rattle.path_sets.specs.Masks.{bit_of}
use Rattle.path_sets.specs.Triples.{Triple}
use Rattle.path_sets.specs.Halves.{valuation_of}
use Rattle.path_sets.specs.Diagrams.{root_of, diagram_of}

-- The diagrams are where they were, and each has the root that it had.
pub record RootsStay (old new : List (DiagramKey × ℕ)) : Type 0 where
  pub indexes : (i : ℕ) (diagram : DiagramKey) → slice_get (keys_of old) i ≡ Some diagram → slice_get (keys_of new) i ≡ Some diagram
  pub numbers : (e b : ℕ) → root_of new e b ≡ root_of old e b

-- an insertion is that of a mask with its key
abbrev pub IsInsertionOf : List DiagramKey → MaskKey × ℕ → Insertion → Type 0
IsInsertionOf diagrams mask insertion = (slice_get diagrams insertion.diagram ≡ Some (diagram_of mask.0))
    × (valuation_of insertion ≡ mask.0.values) × (insertion.mask ≡ mask.1)

-- These are the insertions of the masks.
pub record AreInsertions (diagrams : List DiagramKey) (masks : List (MaskKey × ℕ)) (insertions : List Insertion) : Type 0 where
  pub each : (p : MaskKey × ℕ) → Member p masks → (c : Insertion) × Member c insertions × IsInsertionOf diagrams p c
  pub no_more : (c : Insertion) → Member c insertions → (p : MaskKey × ℕ) × Member p masks × IsInsertionOf diagrams p c

-- the diagram of a path edge
abbrev pub diagram_at : Triple → DiagramKey
diagram_at edge = record { entry = edge.entry; block = edge.point / 64 }

-- a path edge of one of the insertions
abbrev pub InInsertions : List DiagramKey → List Insertion → Triple → Type 0
InInsertions diagrams insertions edge =
    (c : Insertion) × Member c insertions × (slice_get diagrams c.diagram ≡ Some (diagram_at edge)) × (valuation_of c ≡ edge.values)
    × (bit_of c.mask (edge.point % 64) ≡ true)
