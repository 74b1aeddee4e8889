-- Walks through numbered nodes by the bits of a valuation, whatever bits a node tests.
use Rattle.std.specs.Prelude.{◌≡◌, ◌≢◌, ◌+◌, ◌-◌, ◌<◌, ◌≤◌, ℕ, zero, suc, Bool, cond, nat_eq, nat_lt, List, [], ◌∷◌, ◌++◌}
use Rattle.std.specs.Prelude.{◌⊎◌, Option, Some, None, length, slice_get}
use Rattle.std.specs.Option.{option_map_or}

-- the node of a number: 0 and 1 are the empty set and that of all valuations, and have none
abbrev pub node_at : {X : Type 0} → List X → ℕ → Option X
node_at nodes number = cond (nat_lt number 2) None (slice_get nodes (number - 2))

-- whether a walk by the bits of a valuation comes from a number to 1, in at most a given number of steps
unfoldable pub walk : {X : Type 0} → (X → ℕ → ℕ) → List X → ℕ → ℕ → ℕ → Bool
walk next nodes zero number valuation = nat_eq number 1
walk next nodes (suc most) number valuation =
    option_map_or (λ x. walk next nodes most (next x valuation) valuation) (node_at nodes number) (nat_eq number 1)

-- whether it comes there at all: no walk has more steps than its number
unfoldable pub reaches : {X : Type 0} → (X → ℕ → ℕ) → List X → ℕ → ℕ → Bool
reaches next nodes number valuation = walk next nodes number number valuation

-- each step comes to a smaller number, so each walk ends
abbrev pub Descends : {X : Type 0} → (X → ℕ → ℕ) → List X → Type 0
Descends {X} next nodes = (i v : ℕ) (x : X) → slice_get nodes i ≡ Some x → next x v < i + 2

-- the level of a number's node; the last for 0 and 1, which have none
abbrev pub level_at : {X : Type 0} → (X → ℕ) → ℕ → List X → ℕ → ℕ
level_at level last nodes number = option_map_or level (node_at nodes number) last

-- a number that stands for a set
abbrev pub IsNumber : {X : Type 0} → List X → ℕ → Type 0
IsNumber nodes number = number < length nodes + 2

-- more nodes, and the sets and the levels of the numbers that there were are the same
pub record Preserves {X : Type 0} (next : X → ℕ → ℕ) (level : X → ℕ) (last : ℕ) (old new : List X) : Type 0 where
  pub longer : length old ≤ length new
  pub same : (n v : ℕ) → IsNumber old n → reaches next new n v ≡ reaches next old n v
  pub levels : (n : ℕ) → IsNumber old n → level_at level last new n ≡ level_at level last old n

-- the node is new and comes after the nodes that there were, or they are the same
abbrev pub IsGrown : {X : Type 0} → X → List X → List X → Type 0
IsGrown x old new = (new ≡ old) ⊎ ((new ≡ old ++ x ∷ []) × ((i : ℕ) → slice_get old i ≢ Some x))

-- no node occurs twice
abbrev pub StandOnce : {X : Type 0} → List X → Type 0
StandOnce {X} nodes = (i j : ℕ) (x : X) → slice_get nodes i ≡ Some x → slice_get nodes j ≡ Some x → i ≡ j
