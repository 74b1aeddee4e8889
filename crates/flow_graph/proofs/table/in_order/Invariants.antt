-- the bits so far are places
use Rattle.flow_graph.specs.Tables.{AreBits}
use Rattle.flow_graph.proofs.table.in_order.Given as goal

abbrev pub invariant-loop-bit : goal.invariant-loop-bit
invariant-loop-bit l = AreBits l.sorted.items
