-- The value of the lowest bit of the row is written to the first bit left.
use Rattle.std.proofs.Common.{◌%◌, ◌/◌, ◌+◌, ◌==◌, ℕ, drop, get_or, sym, ap, ◌∙◌}
use Rattle.std.proofs.lemmas.List.{at_drop_more}
use Rattle.flow_graph.specs.Assignments.{masked}
use Rattle.flow_graph.specs.Joining.{placed}
use Rattle.flow_graph.proofs.Assignments.{one_bit}
use Rattle.flow_graph.proofs.Rows.{bit_inside}
use Rattle.flow_graph.proofs.joining.placed.Goals as goal

pub overflow_shl-bit : goal.overflow_shl-bit
overflow_shl-bit c = bit_inside c.args.bits.now c.loop-bit.bit-index c.requires c.loop-bit-test.true

pub loop-bit-preserved : goal.loop-bit-preserved
loop-bit-preserved c =
    let bits = c.args.bits.now in
    let i = c.loop-bit.bit-index in
    let left = c.loop-bit.left in
    let b : ℕ = get_or bits i 0 in
    let rest = drop (i + 1) bits in
    let mask = one_bit b (bit_inside bits i c.requires c.loop-bit-test.true) in
    ap (placed rest (left / 2)) (c.masked-values.ensures ∙ ap (λ m. masked c.loop-bit.values m (left % 2 == 1)) mask)
    ∙ sym (at_drop_more (λ l. placed l left c.loop-bit.values) bits i 0 c.loop-bit-test.true) ∙ c.loop-bit.invariant
