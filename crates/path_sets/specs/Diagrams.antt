-- Decision diagrams: the sets of valuations that numbered nodes stand for (Bryant 1986).
use Rattle.std.specs.Prelude.{◌≡◌, ◌≢◌, ◌+◌, ◌/◌, ◌%◌, ◌<◌, ℕ, Bool, true, cond, ◌&&◌, nat_eq, List}
use Rattle.std.specs.Prelude.{◌⊎◌, Some, slice_get}
use Rattle.std.specs.Option.{option_map_or}
use Rattle.std.specs.Map.{lookup}
use Rattle.language.specs.Words.{word_bits}
use Rattle.path_sets.specs.declared.counting.bit_node.BitNode.{BitNode}
use Rattle.path_sets.specs.declared.diagrams.quad.Quad.{Quad}
use Rattle.path_sets.specs.declared.diagrams.roots.DiagramKey.{DiagramKey}
use Rattle.path_sets.specs.declared.diagrams.insertion.Insertion.{Insertion}
use Rattle.path_sets.specs.declared.points.mask_key.MaskKey.{MaskKey}
use Rattle.path_sets.specs.Masks.{bit_of}
use Rattle.path_sets.specs.Triples.{Triple}
use Rattle.path_sets.specs.Walks.{IsNumber, level_at, Preserves, reaches}
use Rattle.path_sets.specs.Quads.{IsInserted, points_of}

-- the number to which a valuation continues from a node, by its bit
abbrev pub child : BitNode → ℕ → ℕ
child node valuation = cond (bit_of valuation node.level) node.high node.low

-- whether a valuation is in the set of a number
abbrev pub accepts : List BitNode → ℕ → ℕ → Bool
accepts nodes number valuation = reaches child nodes number valuation

-- each node tests one of the bits, and its children have smaller numbers, so each walk ends
abbrev pub GoDown : List BitNode → Type 0
GoDown nodes = (i : ℕ) (x : BitNode) → slice_get nodes i ≡ Some x → (x.level < word_bits) × (x.low < i + 2) × (x.high < i + 2)

-- the level that a number's node tests; after the last for 0 and 1, which have none
abbrev pub level_of : List BitNode → ℕ → ℕ
level_of nodes number = level_at (λ x. x.level) word_bits nodes number

-- a node's children test later levels, so that on each way the levels ascend
abbrev pub AreOrdered : List BitNode → Type 0
AreOrdered nodes =
    (i : ℕ) (x : BitNode) → slice_get nodes i ≡ Some x → (x.level < level_of nodes x.low) × (x.level < level_of nodes x.high)

-- a node's two children differ
abbrev pub AreReduced : List BitNode → Type 0
AreReduced nodes = (i : ℕ) (x : BitNode) → slice_get nodes i ≡ Some x → x.low ≢ x.high

-- more nodes, and the sets and the levels of the numbers that there were are the same
abbrev pub KeepsNodes : List BitNode → List BitNode → Type 0
KeepsNodes old new = Preserves child (λ x. x.level) word_bits old new

-- whether two keys are of one diagram
abbrev pub diagram_eq : DiagramKey → DiagramKey → Bool
diagram_eq x y = nat_eq x.entry y.entry && nat_eq x.block y.block

-- the root of the diagram of an entry and a block; without one, that of the diagram with nothing
abbrev pub root_of : List (DiagramKey × ℕ) → ℕ → ℕ → ℕ
root_of roots entry block = option_map_or (λ n. n) (lookup (diagram_eq (record { entry = entry; block = block })) roots) 0

-- the diagram has this root, and the others have those that they had
pub record GivesRoot (old : List (DiagramKey × ℕ)) (diagram : DiagramKey) (number : ℕ) (new : List (DiagramKey × ℕ)) : Type 0 where
  pub here : root_of new diagram.entry diagram.block ≡ number
  pub others : (e b : ℕ) → ((e ≡ diagram.entry) × (b ≡ diagram.block) → ⊥) → root_of new e b ≡ root_of old e b

-- the key of the diagram that has a mask
abbrev pub diagram_of : MaskKey → DiagramKey
diagram_of mask_key = record { entry = mask_key.entry; block = mask_key.block }

-- a path edge of a diagram, by the valuations and the masks of these insertions
abbrev pub InRun : DiagramKey → List Insertion → Triple → Type 0
InRun diagram insertions edge = (edge.entry ≡ diagram.entry) × (edge.point / 64 ≡ diagram.block)
    × IsInserted insertions 0 edge.values (edge.point % 64)

-- whether a path edge is in the diagrams: its point is among those of its valuation
abbrev pub merged_has : List Quad → List (DiagramKey × ℕ) → Triple → Bool
merged_has nodes roots edge = bit_of (points_of nodes (root_of roots edge.entry (edge.point / 64)) edge.values) (edge.point % 64)

-- each root is a number
abbrev pub HaveNumbers : List Quad → List (DiagramKey × ℕ) → Type 0
HaveNumbers nodes roots = (e b : ℕ) → IsNumber nodes (root_of roots e b)

-- The diagrams keep what they had, and all else that they have is part of what was given.
pub record TakesGiven (given : Triple → Type 0) (nodes nodes' : List Quad) (roots roots' : List (DiagramKey × ℕ)) : Type 0 where
  pub kept : (t : Triple) → merged_has nodes roots t ≡ true → merged_has nodes' roots' t ≡ true
  pub sound : (t : Triple) → merged_has nodes' roots' t ≡ true → (merged_has nodes roots t ≡ true) ⊎ given t
