-- If the left operand is the same in each row, and decides, the whole is the same in each row.
use Rattle.std.proofs.Common.{true, false, replicate, refl, sym, ap}
use Rattle.std.specs.Cmp.Lexicographic.{same_text}
use Rattle.language.specs.Value.{operate}
use Rattle.trees.specs.Trees.{operator_of}
use Rattle.flow_graph.proofs.Rows.{decided_rows}
use Rattle.flow_graph.proofs.outputs.decided.Goals as goal

pub returns-in-And : goal.returns-in-And
returns-in-And c =
    let zeros = replicate 16 0 in
    decided_rows zeros c.args.left.now zeros (operator_of c.args.op) false false refl refl (same_text _ zeros c.if-eq.ensures)
    (λ b. ap (λ o. operate (operator_of o) false b) (sym c.in-And.is))

pub returns-in-Or : goal.returns-in-Or
returns-in-Or c =
    let ones = replicate 16 18446744073709551615 in
    decided_rows ones c.args.left.now ones (operator_of c.args.op) true true refl refl (same_text _ ones c.if-eq-2.ensures)
    (λ b. ap (λ o. operate (operator_of o) true b) (sym c.in-Or.is))

pub returns-in-Implies : goal.returns-in-Implies
returns-in-Implies c =
    let zeros = replicate 16 0 in
    let ones = replicate 16 18446744073709551615 in
    decided_rows zeros c.args.left.now ones (operator_of c.args.op) false true refl refl (same_text _ zeros c.if-eq-3.ensures)
    (λ b. ap (λ o. operate (operator_of o) false b) (sym c.in-Implies.is))
