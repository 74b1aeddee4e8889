-- Each bit is a place.
use Rattle.std.proofs.Common.{sym, subst, arith}
use Rattle.flow_graph.specs.Tables.{AreBits}
use Rattle.flow_graph.proofs.Rows.{bits_pushed}
use Rattle.flow_graph.proofs.table.in_order.Goals as goal
use Rattle.flow_graph.proofs.table.in_order.Goals.{then-slot_of-bits+then-len-lt-MOST_INPUTS, else-slot_of-bits}

pub loop-bit-preserved : goal.loop-bit-preserved
loop-bit-preserved c =
    elim c.if-slot_of-bits.branch [
      | then-slot_of-bits+then-len-lt-MOST_INPUTS w ↦
          subst (λ s. AreBits s.items) (sym w.sorted-is) (subst AreBits (sym w.push.ensures.items)
          (bits_pushed c.loop-bit.bit c.loop-bit.sorted.items (omega (arith, c.loop-bit-test.true)) c.loop-bit.invariant))
      | else-slot_of-bits w ↦ subst (λ s. AreBits s.items) (sym w.sorted-is) c.loop-bit.invariant
    ]
