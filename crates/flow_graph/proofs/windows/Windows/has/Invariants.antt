-- the bit is one of all if it is one of those left
use Rattle.std.proofs.Common.{◌≡◌, drop}
use Rattle.flow_graph.specs.Tables.{is_input}
use Rattle.flow_graph.specs.Windows.{seen}
use Rattle.flow_graph.proofs.windows.Windows.has.Given as goal

abbrev pub invariant-loop-window : goal.invariant-loop-window
invariant-loop-window l = is_input l.bit (seen (drop l.window-index l.window-items)) ≡ is_input l.bit (seen l.window-items)
