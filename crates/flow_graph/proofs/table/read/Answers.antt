-- The bit is an input already, or becomes the last.
use Rattle.std.proofs.Common.{◌≡◌, ◌∙◌, ◌++◌, ◌∷◌, [], sym, ap, subst, length, refl, arith}
use Rattle.flow_graph.specs.Tables.{slot, ReadsBit, AreBits}
use Rattle.flow_graph.proofs.Rows.{slot_most, slot_inside, slot_last, reads_slot, bits_pushed}
use Rattle.flow_graph.proofs.table.read.Goals as goal

pub returns-then-slot-len-clause-outputs : goal.returns-then-slot-len-clause-outputs
returns-then-slot-len-clause-outputs c =
    let at : slot c.args.bit c.args.inputs.now.items ≡ c.slot_of-slot.result =
    sym (c.slot_of-slot.ensures ∙ ap (slot c.args.bit) c.as_slice.ensures.value) in
    reads_slot c.args.bit c.slot_of-slot.result c.outputs_of_slot.result c.args.inputs.now.items at
    (slot_inside c.args.bit c.args.inputs.now.items (omega (arith, at, c.if-slot-len.true, c.len.ensures.value)))
    c.outputs_of_slot.ensures

pub outputs_of_slot-requires-in-Ok : goal.outputs_of_slot-requires-in-Ok
outputs_of_slot-requires-in-Ok c =
    let room = c.in-Ok.ensures.variant.0 refl in
    omega (arith, room, slot_most c.args.bit c.as_slice.result.now, c.slot_of-slot.ensures, ap length c.as_slice.ensures.value)

pub returns-in-Ok-clause-bits : goal.returns-in-Ok-clause-bits
returns-in-Ok-clause-bits c small bits = subst AreBits (sym c.in-Ok.ensures.ok) (bits_pushed c.args.bit c.args.inputs.now.items small bits)

pub returns-in-Ok-clause-outputs : goal.returns-in-Ok-clause-outputs
returns-in-Ok-clause-outputs c =
    let xs = c.args.inputs.now.items in
    let last = slot_last c.args.bit xs in
    subst (λ l. ReadsBit l c.outputs_of_slot-in-Ok.result c.args.bit) (sym c.in-Ok.ensures.ok)
    (reads_slot c.args.bit c.slot_of-slot.result c.outputs_of_slot-in-Ok.result (xs ++ (c.args.bit ∷ []))
    (last.0 ∙ sym (c.slot_of-slot.ensures ∙ ap (slot c.args.bit) c.as_slice.ensures.value)) last.1 c.outputs_of_slot-in-Ok.ensures)
