-- the windows so far are on the bits so far
use Rattle.std.proofs.Common.{◌≡◌, ◌≤◌, length, take}
use Rattle.flow_graph.specs.Windows.{seen, AreWindows}
use Rattle.flow_graph.proofs.windows.Windows.new.Given as goal

abbrev pub invariant-loop-bit : goal.invariant-loop-bit
invariant-loop-bit l =
    (l.front ≡ l.bit-index) × ((length l.items.items ≤ l.front)
    × (AreWindows 0 l.items.items × (seen l.items.items ≡ take l.bit-index l.bits)))
