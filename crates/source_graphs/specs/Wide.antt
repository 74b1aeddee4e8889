-- Which procedure of a tree has too many places.
use Rattle.std.specs.Prelude.{◌≡◌, ℕ, ◌<◌, ◌≤◌, Option, Some, None, slice_get, take}
use Rattle.std.specs.List.{AllByRecursion}
use Rattle.language.specs.Tree.{Procedure, Tree}
use Rattle.resolved.specs.Limits.{most_places}
use Rattle.resolved.specs.Narrow.{width, AllNarrow}
use Rattle.source_graphs.specs.declared.width.WideProcedure.{WideProcedure}

-- The first procedure of the tree that has more than 128 places, with the offset of its name and its places; none if
-- all have at most 128.
abbrev pub IsFirstWide : Tree → Option WideProcedure → Type 0
IsFirstWide tree None = AllNarrow tree
IsFirstWide tree (Some wide) =
    (i : ℕ) × (p : Procedure) × (slice_get tree.procedures i ≡ Some p) × (p.name.at ≡ wide.at) × (wide.places ≡ width tree p)
    × (most_places < wide.places)
    × AllByRecursion (λ (other : Procedure). width tree other ≤ most_places) (take i tree.procedures)
