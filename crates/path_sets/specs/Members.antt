-- The members of sets of path edges that are kept as decision diagrams.
use Rattle.std.specs.Prelude.{◌≡◌, ◌<◌, ◌↔◌, ◌⊎◌, ℕ, zero, suc, ◌^◌, Bool, true, false, ◌&&◌, ◌||◌, nat_eq}
use Rattle.std.specs.Prelude.{List, [], ◌∷◌, ◌++◌, map, filter}
use Rattle.std.specs.Map.{keys_of}
use Rattle.language.specs.Lists.{Member}
use Rattle.language.specs.Words.{word_bits}
use Rattle.std.specs.List.{list_any}
use Rattle.path_sets.specs.declared.diagrams.quad.Quad.{Quad}
use Rattle.path_sets.specs.declared.points.mask_key.MaskKey.{MaskKey}
use Rattle.path_sets.specs.declared.diagrams.roots.DiagramKey.{DiagramKey}
use Rattle.path_sets.specs.Triples.{Triple, triple}
use Rattle.path_sets.specs.Edges.{edge_at, mask_edges}
use Rattle.path_sets.specs.Diagrams.{merged_has}

-- the numbers below this one, the greatest first
unfoldable pub below : ℕ → List ℕ
below zero = []
below (suc n) = n ∷ below n

-- what is given for each, one list after another
unfoldable pub each : {A B : Type 0} → (A → List B) → List A → List B
each f [] = []
each f (x ∷ xs) = f x ++ each f xs

-- all path edges whose entry and valuation are words, and whose point is below 2 ^ 64
unfoldable pub universe : List Triple
universe = each (λ e. each (λ p. map (triple e p) (below (2 ^ word_bits))) (below (2 ^ 64))) (below (2 ^ word_bits))

-- whether two path edges are the same
abbrev pub triple_eq : Triple → Triple → Bool
triple_eq x y = nat_eq x.entry y.entry && (nat_eq x.point y.point && nat_eq x.values y.values)

-- whether a path edge is among those that are gathered
abbrev pub is_gathered : List (MaskKey × ℕ) → Triple → Bool
is_gathered masks edge = list_any (triple_eq edge) (mask_edges masks)

-- whether a path edge is in the diagrams, or among those that are gathered
abbrev pub has_edge : List Quad → List (DiagramKey × ℕ) → List (MaskKey × ℕ) → Triple → Bool
has_edge nodes roots masks edge = merged_has nodes roots edge || is_gathered masks edge

-- all of these path edges
abbrev pub all_edges : List Quad → List (DiagramKey × ℕ) → List (MaskKey × ℕ) → List Triple
all_edges nodes roots masks = filter (has_edge nodes roots masks) universe

-- a path edge is in the diagrams, or among those that are gathered
abbrev pub IsEdgeThere : List Quad → List (DiagramKey × ℕ) → List (MaskKey × ℕ) → Triple → Type 0
IsEdgeThere nodes roots masks edge = (merged_has nodes roots edge ≡ true) ⊎ Member edge (mask_edges masks)

-- what the diagrams have at a key that is gathered is among what is gathered
abbrev pub Covers : List Quad → List (DiagramKey × ℕ) → List (MaskKey × ℕ) → Type 0
Covers nodes roots masks =
    (p : MaskKey) (bit : ℕ) → bit < 64 → Member p (keys_of masks) → merged_has nodes roots (edge_at p bit) ≡ true
    → is_gathered masks (edge_at p bit) ≡ true

-- The path edge was not there, and now it and what was there are; or it was there, and what is gathered is the same.
-- The result says which.
abbrev pub PutsEdge : List Quad → List (DiagramKey × ℕ) → Triple → List (MaskKey × ℕ) → List (MaskKey × ℕ) → Bool → Type 0
PutsEdge nodes roots edge old new true =
    (IsEdgeThere nodes roots old edge → ⊥) × ((t : Triple) → IsEdgeThere nodes roots new t ↔ ((t ≡ edge) ⊎ IsEdgeThere nodes roots old t))
PutsEdge nodes roots edge old new false = IsEdgeThere nodes roots old edge × (mask_edges new ≡ mask_edges old)
