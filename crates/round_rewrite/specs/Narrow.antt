-- How many places the procedures of the rewritten tree have.
use Rattle.std.specs.Prelude.{◌≡◌, ℕ, ◌<◌, ◌≤◌, List, Option, Some, None, slice_get, take}
use Rattle.std.specs.List.{AllByRecursion}
use Rattle.language.specs.Tree.{Procedure, Tree}
use Rattle.resolved.specs.Narrow.{width, AllNarrow}
use Rattle.round_rewrite.specs.Limits.{last_round}
use Rattle.round_rewrite.specs.Names.{rewritten_for, rewritten_procedure, rewritten_tree}
use Rattle.resolved.specs.Limits.{most_places}
use Rattle.round_rewrite.specs.declared.width.Wide.{Wide}

-- every procedure of the rewritten tree has at most 128 places, where rounds count from 0 to `last`
abbrev pub IsNarrow : ℕ → Tree → Type 0
IsNarrow last tree = AllNarrow (rewritten_tree last tree)

-- every procedure of the tree rewritten for K rounds has at most 128 places
abbrev pub IsNarrowFor : ℕ → Tree → Type 0
IsNarrowFor rounds tree = AllNarrow (rewritten_for rounds tree)

-- how many places a procedure of the source has in the rewritten tree
abbrev pub rewritten_width : ℕ → Tree → Procedure → ℕ
rewritten_width last tree procedure = width (rewritten_tree last tree) (rewritten_procedure last procedure)

-- each of these procedures has at most 128 places in the rewritten tree
abbrev pub AreNarrow : ℕ → Tree → List Procedure → Type 0
AreNarrow last tree = AllByRecursion (λ (p : Procedure). rewritten_width last tree p ≤ most_places)

-- The first procedure of the source that has more than 128 places in the rewritten tree, with the offset of its name
-- and its places; none if all have at most 128.
abbrev pub IsFirstWide : ℕ → Tree → Option Wide → Type 0
IsFirstWide last tree None = AreNarrow last tree tree.procedures
IsFirstWide last tree (Some wide) =
    (i : ℕ) × (p : Procedure) × (slice_get tree.procedures i ≡ Some p) × (p.name.at ≡ wide.at)
    × (wide.places ≡ rewritten_width last tree p) × (most_places < wide.places) × AreNarrow last tree (take i tree.procedures)

-- the same for the tree rewritten for K rounds
abbrev pub IsFirstWideFor : ℕ → Tree → Option Wide → Type 0
IsFirstWideFor rounds tree wide = IsFirstWide (last_round rounds) tree wide
