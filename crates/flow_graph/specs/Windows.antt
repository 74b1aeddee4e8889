-- Windows: neighbouring bits of a valuation that are read together, and their places in a row.
use mathlib.Core.HLevel.{×_prop}
use native.Mathlib.Nat.{ℕ_set}
use Rattle.std.specs.Prelude.{◌≡◌, ◌≤◌, ◌+◌, ◌-◌, ◌%◌, ◌^◌, ℕ, zero, suc, List, [], ◌∷◌, ◌++◌}
use Rattle.language.specs.Words.{word_bits}
use Rattle.flow_graph.specs.Postfix.{few_prop}
use Rattle.flow_graph.specs.Tables.{most_inputs}
use Rattle.flow_graph.specs.declared.windows.Window.{Window}

-- numbers that follow one another, from the first on
abbrev pub span : ℕ → ℕ → List ℕ
span first zero = []
span first (suc more) = first ∷ span (suc first) more

-- the bits of windows, those of the first window first
abbrev pub seen : List Window → List ℕ
seen [] = []
seen (w ∷ ws) = span w.first w.count ++ seen ws

-- The window lies in one half of a valuation. If that half is rotated to the right by the rotation, its bits come after
-- as many others as are in front of it in the row, and the mask is 1 for them alone.
abbrev pub IsWindow : ℕ → Window → Type 0
IsWindow front w =
    (w.first % 64 + w.count ≤ 64) × ((w.first + w.count ≤ word_bits)
    × ((w.rotation ≡ (w.first % 64 + 64 - front) % 64) × (w.mask ≡ 2 ^ (w.count + front) - 2 ^ front)))

-- windows of a row, each after the bits of those in front of it; they have at most as many bits as a table has inputs
abbrev pub AreWindows : ℕ → List Window → Type 0
AreWindows front [] = front ≤ most_inputs
AreWindows front (w ∷ ws) = IsWindow front w × AreWindows (w.count + front) ws

-- this has at most one proof, so a type may carry it
pub AreWindows-prop : (front : ℕ) (ws : List Window) → IsProp (AreWindows front ws)
AreWindows-prop front [] = few_prop front most_inputs
AreWindows-prop front (w ∷ ws) =
    ×_prop (×_prop (few_prop _ 64) (×_prop (few_prop _ word_bits) (×_prop (ℕ_set _ _) (ℕ_set _ _))))
    (AreWindows-prop (w.count + front) ws)
