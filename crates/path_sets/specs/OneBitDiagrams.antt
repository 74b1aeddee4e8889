-- The set of valuations that are at one point, by nodes of one bit.
use Rattle.std.specs.Prelude.{◌≡◌, ◌*◌, ◌/◌, ◌^◌, ◌<◌, ◌≤◌, ℕ, Bool, ◌&&◌, nat_eq, List, Some}
use Rattle.std.specs.Bool.{beq}
use Rattle.std.specs.Map.{lookup}
use Rattle.language.specs.Words.{word_bits}
use Rattle.path_sets.specs.declared.counting.bit_node.BitNode.{BitNode}
use Rattle.path_sets.specs.declared.diagrams.quad.Quad.{Quad}
use Rattle.path_sets.specs.declared.counting.one_bit.Subproblem.{Subproblem}
use Rattle.path_sets.specs.Walks.{IsNumber}
use Rattle.path_sets.specs.Quads.{is_at}
use Rattle.path_sets.specs.Diagrams.{accepts, level_of}

-- whether two subproblems are the same
abbrev pub subproblem_eq : Subproblem → Subproblem → Bool
subproblem_eq x y = nat_eq x.number y.number && (beq x.zero y.zero && nat_eq x.level y.level)

-- A number of nodes of one bit has the set of a subproblem: a valuation is in it exactly if it is at the point by
-- what is left of it at the level; and no bit before that level is tested.
pub record Solves (quads : List Quad) (point : ℕ) (nodes : List BitNode) (subproblem : Subproblem) (number : ℕ) : Type 0 where
  pub inside : IsNumber nodes number
  pub deep : 2 * subproblem.level ≤ level_of nodes number
  pub same : (v : ℕ) → v < 2 ^ word_bits
      → accepts nodes number v ≡ is_at quads subproblem.number subproblem.zero point (v / 4 ^ subproblem.level)

-- the numbers that are kept have the sets of their subproblems
abbrev pub AreSolved : List Quad → ℕ → List BitNode → List (Subproblem × ℕ) → Type 0
AreSolved quads point nodes memo =
    (subproblem : Subproblem) (n : ℕ) → lookup (subproblem_eq subproblem) memo ≡ Some n → Solves quads point nodes subproblem n
