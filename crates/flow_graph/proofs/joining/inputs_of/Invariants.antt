-- the bits so far are those below this one that are read
use Rattle.std.proofs.Common.{◌≡◌, ◌≤◌, length}
use Rattle.flow_graph.specs.Joining.{read_bits}
use Rattle.flow_graph.specs.Tables.{most_inputs}
use Rattle.flow_graph.proofs.joining.inputs_of.Given as goal

abbrev pub invariant-loop-bit : goal.invariant-loop-bit
invariant-loop-bit g l = (l.bits.items ≡ read_bits l.writes l.bit) × (length l.bits.items ≤ most_inputs)
