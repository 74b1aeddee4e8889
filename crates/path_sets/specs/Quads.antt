-- Diagrams that give each valuation a mask of points, two bits of the valuation at each node.
use Rattle.std.specs.Prelude.{◌≡◌, ◌≢◌, ◌+◌, ◌/◌, ◌%◌, ◌^◌, ◌<◌, ◌≤◌, ◌↔◌, ◌⊎◌, ℕ, zero}
use Rattle.std.specs.Prelude.{suc, Bool, true, cond, nat_eq}
use Rattle.std.specs.Prelude.{List, Some, slice_get, length}
use Rattle.std.specs.Option.{option_map_or}
use Rattle.language.specs.Lists.{Member}
use Rattle.language.specs.Words.{word_bits}
use Rattle.path_sets.specs.declared.diagrams.quad.Quad.{Quad}
use Rattle.path_sets.specs.declared.diagrams.insertion.Insertion.{Insertion}
use Rattle.path_sets.specs.Masks.{bit_of}
use Rattle.path_sets.specs.Halves.{valuation_of}
use Rattle.path_sets.specs.Walks.{node_at, IsNumber}

-- how many levels there are, two bits of a valuation at each
abbrev pub levels : ℕ
levels = word_bits / 2

-- the number to which a valuation continues from a node, by its two low bits
abbrev pub quad_child : Quad → ℕ → ℕ
quad_child node valuation =
    cond (nat_eq (valuation % 4) 0) node.none
    (cond (nat_eq (valuation % 4) 1) node.first (cond (nat_eq (valuation % 4) 2) node.second node.both))

-- the points that a valuation comes to from a number, in less than a given number of steps: those of the node at which
-- nothing of it is left
unfoldable pub walk_to : List Quad → ℕ → ℕ → ℕ → ℕ
walk_to quads zero number valuation = 0
walk_to quads (suc most) number valuation =
    option_map_or (λ x. cond (nat_eq valuation 0) x.points (walk_to quads most (quad_child x valuation) (valuation / 4)))
    (node_at quads number) 0

-- the points that a valuation is at by the diagram of a number
unfoldable pub points_of : List Quad → ℕ → ℕ → ℕ
points_of quads number valuation = walk_to quads (suc valuation) number valuation

-- the points that a valuation is at by a node
abbrev pub sees : List Quad → Quad → ℕ → ℕ
sees quads node valuation = cond (nat_eq valuation 0) node.points (points_of quads (quad_child node valuation) (valuation / 4))

-- whether a valuation is at a point by the diagram of a number; for the valuation 0 this is given
abbrev pub is_at : List Quad → ℕ → Bool → ℕ → ℕ → Bool
is_at quads number nought bit valuation = cond (nat_eq valuation 0) nought (bit_of (points_of quads number valuation) bit)

-- a node's children are numbers
abbrev pub AreInside : List Quad → Quad → Type 0
AreInside quads node = (IsNumber quads node.none) × (IsNumber quads node.first) × (IsNumber quads node.second)
    × (IsNumber quads node.both)

-- a node's children are below a number
abbrev pub IsBelow : Quad → ℕ → Type 0
IsBelow node n = (node.none < n) × (node.first < n) × (node.second < n) × (node.both < n)

-- each node's children have smaller numbers than it has
abbrev pub QuadsGoDown : List Quad → Type 0
QuadsGoDown quads = (i : ℕ) (x : Quad) → slice_get quads i ≡ Some x → IsBelow x (i + 2)

-- there is nothing at a node: no points and no way on
abbrev pub nothing : Quad
nothing = record { points = 0; none = 0; first = 0; second = 0; both = 0 }

-- there is something at each node
abbrev pub QuadsAreReduced : List Quad → Type 0
QuadsAreReduced quads = (i : ℕ) (x : Quad) → slice_get quads i ≡ Some x → x ≢ nothing

-- more nodes, and the diagrams of the numbers that there were are the same
pub record KeepQuads (old new : List Quad) : Type 0 where
  pub longer : length old ≤ length new
  pub same : (n v : ℕ) → IsNumber old n → points_of new n v ≡ points_of old n v

-- the point is in the mask of one of the insertions, of whose valuation this is left at a level
abbrev pub IsInserted : List Insertion → ℕ → ℕ → ℕ → Type 0
IsInserted insertions level valuation point = (c : Insertion) × Member c insertions × (valuation_of c / 4 ^ level ≡ valuation)
    × (bit_of c.mask point ≡ true)

-- the new diagram has the points of the old one and those of the insertions
abbrev pub Joins : List Insertion → ℕ → (ℕ → ℕ) → (ℕ → ℕ) → Type 0
Joins insertions level old new =
    (v point : ℕ) → (bit_of (new v) point ≡ true) ↔ ((bit_of (old v) point ≡ true) ⊎ IsInserted insertions level v point)
