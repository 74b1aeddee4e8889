-- none of the bits so far is this one
use Rattle.std.proofs.Common.{◌≡◌, ◌+◌, ◌≤◌, drop}
use Rattle.flow_graph.specs.Tables.{slot}
use Rattle.flow_graph.proofs.row.slot_of.Given as goal

abbrev pub invariant-loop-other : goal.invariant-loop-other
invariant-loop-other l = (l.at ≤ l.other-index) × (l.at + slot l.bit (drop l.other-index l.bits) ≡ slot l.bit l.bits)
