-- A slot after the last is that of no bit.
use Rattle.std.proofs.Common.{◌∙◌, ◌==◌, Some, None, cond, sym, ap, arith}
use Rattle.std.proofs.lemmas.Nat.Bits.{shr_and_one}
use Rattle.flow_graph.specs.Bits.{bit_of}
use Rattle.flow_graph.specs.Tables.{slot}
use Rattle.flow_graph.proofs.Rows.{slot_inside, slot_outside}
use Rattle.flow_graph.proofs.row.KnownBits.value.Goals as goal

pub returns-then-slot-self : goal.returns-then-slot-self
returns-then-slot-self c =
    let bits = c.args.self.now.bits.now in
    let row = c.args.self.now.row in
    ap (λ n. Some (n == 1)) (shr_and_one row c.slot_of-slot.result)
    ∙ ap (λ s. Some (bit_of row s)) c.slot_of-slot.ensures
    ∙ ap (λ k. cond k (Some (bit_of row (slot c.args.bit bits))) None)
    (sym (slot_inside c.args.bit bits (omega (arith, c.slot_of-slot.ensures, c.if-slot-self.true))))

pub returns-else-slot-self : goal.returns-else-slot-self
returns-else-slot-self c =
    let bits = c.args.self.now.bits.now in
    ap (λ k. cond k (Some (bit_of c.args.self.now.row (slot c.args.bit bits))) None)
    (sym (slot_outside c.args.bit bits (omega (arith, c.slot_of-slot.ensures, c.if-slot-self.false))))
