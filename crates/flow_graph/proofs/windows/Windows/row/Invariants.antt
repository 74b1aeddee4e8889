-- the row so far is that of the bits of the windows so far
use Rattle.std.proofs.Common.{◌≡◌, map, take}
use Rattle.flow_graph.specs.Bits.{bit_of, coded}
use Rattle.flow_graph.specs.Windows.{seen}
use Rattle.flow_graph.proofs.windows.Windows.row.Given as goal

abbrev pub invariant-loop-window : goal.invariant-loop-window
invariant-loop-window l = l.row ≡ coded (map (bit_of l.values) (seen (take l.window-index l.self.items.items)))
