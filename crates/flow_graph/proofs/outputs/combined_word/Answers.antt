-- Each operator on words is the operator on each of their bits.
use Rattle.std.proofs.Common.{◌∙◌, ◌||◌, cond, not, sym, ap, arith}
use Rattle.language.specs.Value.{operate}
use Rattle.trees.specs.Trees.{operator_of}
use Rattle.flow_graph.specs.Bits.{bit_of}
use Rattle.flow_graph.proofs.Rows.{bits_and, bits_or, bits_xor, bits_not, turned}
use Rattle.flow_graph.proofs.outputs.combined_word.Goals as goal

pub returns-in-And : goal.returns-in-And
returns-in-And c j less = bits_and c.args.left c.args.right j
    ∙ ap (λ o. operate (operator_of o) (bit_of c.args.left j) (bit_of c.args.right j)) (sym c.in-And.is)

pub returns-in-Or : goal.returns-in-Or
returns-in-Or c j less = bits_or c.args.left c.args.right j ∙ ap (λ o. operate (operator_of o) (bit_of c.args.left j)
    (bit_of c.args.right j)) (sym c.in-Or.is)

pub returns-in-Xor : goal.returns-in-Xor
returns-in-Xor c j less = bits_xor c.args.left c.args.right j
    ∙ ap (λ o. operate (operator_of o) (bit_of c.args.left j) (bit_of c.args.right j)) (sym c.in-Xor.is)

pub returns-in-Differs : goal.returns-in-Differs
returns-in-Differs c j less = bits_xor c.args.left c.args.right j
    ∙ ap (λ o. operate (operator_of o) (bit_of c.args.left j) (bit_of c.args.right j)) (sym c.in-Differs.is)

pub returns-in-Implies : goal.returns-in-Implies
returns-in-Implies c j less =
    bits_or _ c.args.right j ∙ ap (λ b. b || bit_of c.args.right j)
    (bits_not c.args.left j (let fits = c.ranges.left.fits in omega (arith, fits)) less)
    ∙ ap (λ o. operate (operator_of o) (bit_of c.args.left j) (bit_of c.args.right j)) (sym c.in-Implies.is)

pub returns-in-Equal : goal.returns-in-Equal
returns-in-Equal c j less =
    bits_xor _ c.args.right j ∙ ap (λ b. cond b (not (bit_of c.args.right j)) (bit_of c.args.right j))
    (bits_not c.args.left j (let fits = c.ranges.left.fits in omega (arith, fits)) less)
    ∙ turned (bit_of c.args.left j) (bit_of c.args.right j)
    ∙ ap (λ o. operate (operator_of o) (bit_of c.args.left j) (bit_of c.args.right j)) (sym c.in-Equal.is)
