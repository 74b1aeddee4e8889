-- The output is the same in each row.
use Rattle.std.proofs.Common.{◌∙◌, true, false, replicate, refl, sym}
use Rattle.flow_graph.proofs.Rows.{constant}
use Rattle.flow_graph.proofs.outputs.outputs_of_constant.Goals as goal

pub returns-then-value : goal.returns-then-value
returns-then-value c j less = constant (replicate 16 18446744073709551615) true refl j less ∙ sym c.if-value.true

pub returns-else-value : goal.returns-else-value
returns-else-value c j less = constant (replicate 16 0) false refl j less ∙ sym c.if-value.false
