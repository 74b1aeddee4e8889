-- The numbers of statements: how many there are, where they begin, and where a label stands.
use Rattle.std.specs.Prelude.{◌≡◌, ◌≤◌, ℕ, ◌+◌, Option, List, option_map}
use Rattle.language.specs.Resolve.{Scope, resolve_block}
use Rattle.language.specs.Rest.{Label, Code, join, rest_from}
use Rattle.language.specs.Sequential.{statements, numbered}
use Rattle.trees.specs.Trees.{block_of}
use Rattle.trees.specs.declared.tree.Stmt.{Stmt}
use Rattle.flow_graph.specs.Nodes.{point_at}

-- size is how many statements there are, including those inside others, if this is a number of 64 bits
abbrev pub IsSize : {TreeAlloc : Type 0} → List (Stmt TreeAlloc) → ℕ → Type 0
IsSize stmts size = statements (block_of stmts) ≤ 18446744073709551615 → size ≡ statements (block_of stmts)

-- if a run continues at the point `after` after these statements, the first of which has this number, they begin at
-- `to`
abbrev pub BeginAt : {TreeAlloc : Type 0} → List (Stmt TreeAlloc) → ℕ → ℕ → ℕ → Type 0
BeginAt stmts first after to =
    (scope : Scope) (rest : Code) → point_at rest ≡ after →
    to ≡ point_at (join (numbered first (resolve_block scope (block_of stmts))) rest)

-- The point of the first statement with this label was found, or that there is none, among statements whose numbers are
-- of 64 bits, and those inside of them.
abbrev pub IsLabelFound : {TreeAlloc : Type 0} → Label → List (Stmt TreeAlloc) → ℕ → Option ℕ → Type 0
IsLabelFound label stmts first found =
    (scope : Scope) (rest : Code) → first + statements (block_of stmts) ≤ 18446744073709551615 →
    found ≡ option_map point_at (rest_from label (numbered first (resolve_block scope (block_of stmts))) rest)
