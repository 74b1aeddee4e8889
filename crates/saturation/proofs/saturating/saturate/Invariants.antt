use Rattle.std.proofs.Common.{◌+◌, ◌-◌, ◌≤◌, ℕ, length, take}
use Rattle.stack_sets.specs.Nodes.{nodes_in, by_number}
use Rattle.saturation.specs.Calls.{AreListed}
use Rattle.saturation.specs.Items.{Extends}
use Rattle.saturation.specs.Saturation.{AreFound, IsClosedFor}
use Rattle.stack_sets.specs.Turns.{machine_by}
use Rattle.saturation.proofs.saturating.saturate.Given as goal

abbrev pub invariant-items : goal.invariant-items
invariant-items g l =
    IsClosedFor (machine_by l.graphs l.asserts) (by_number (nodes_in l.sets)) (take l.at l.items.keys) l.items.keys
    × AreListed l.calls (take l.at l.items.keys)
    × ((globals node : ℕ) → AreFound (machine_by l.graphs l.asserts) (by_number (nodes_in l.sets)) globals node l.initial.items.keys
    → AreFound (machine_by l.graphs l.asserts) (by_number (nodes_in l.sets)) globals node l.items.keys)
    × Extends (λ x. Unit {0}) l.initial.items.keys l.items.keys
    × (l.left + length l.items.keys ≤ l.initial.left + length l.initial.items.keys) × (l.at ≤ length l.items.keys)

abbrev pub decreases-items : goal.decreases-items
decreases-items g l = (l.left + length l.items.keys) - l.at
