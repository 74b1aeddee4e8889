-- How many places the procedures of a tree have.
use mathlib.Core.HLevel.{×_prop, Unit-prop}
use native.Mathlib.Bridge.{le_prop}
use Rattle.std.specs.Prelude.{ℕ, ◌+◌, ◌≤◌, List, [], ◌∷◌, length}
use Rattle.std.specs.List.{AllByRecursion, AllByRecursion-prop}
use Rattle.language.specs.Tree.{Procedure, Tree}
use Rattle.language.specs.Step.{frame_size}
use Rattle.language.specs.Resolve.{routine_of}
use Rattle.resolved.specs.Limits.{most_places}

-- how many places a procedure's valuations have: the globals, the formals and locals, and the result, if it gives
-- one
abbrev pub width : Tree → Procedure → ℕ
width tree procedure = length tree.globals + frame_size (routine_of tree procedure)

-- every procedure of the tree has at most 128 places
abbrev pub AllNarrow : Tree → Type 0
AllNarrow tree = AllByRecursion (λ (p : Procedure). width tree p ≤ most_places) tree.procedures

-- this has at most one proof, so a type may carry it
pub AllNarrow-prop : (t : Tree) → IsProp (AllNarrow t)
AllNarrow-prop tree = AllByRecursion-prop _ (λ procedure. le_prop) tree.procedures
