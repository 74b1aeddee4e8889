-- An operator on words is the operator on the outputs of each row.
use Rattle.std.proofs.Common.{◌≡◌, ◌∙◌, subst, arith}
use Rattle.std.proofs.lemmas.List.{length-set}
use Rattle.trees.specs.Trees.{operator_of}
use Rattle.flow_graph.proofs.Rows.{AreCombined, combined_next, combined_rows}
use Rattle.flow_graph.proofs.outputs.combined.Goals as goal

pub loop-at-preserved : goal.loop-at-preserved
loop-at-preserved c =
    let inside = c.loop-at-test.true in (
      length-set c.loop-at.outputs c.loop-at.at c.combined_word.result ∙ c.loop-at.invariant.0,
      combined_next
          (operator_of c.args.op) c.args.left.now c.args.right.now c.loop-at.outputs c.loop-at.at c.combined_word.result
          (omega (arith, inside, c.loop-at.invariant.0)) c.loop-at.invariant.1 c.combined_word.ensures,
    )

pub returns : goal.returns
returns c j less =
    let all : c.loop-at.at ≡ 16 = omega (arith, c.loop-at-test.false, c.loop-at.auto.at-end) in
    combined_rows (operator_of c.args.op) c.args.left.now c.args.right.now c.loop-at.outputs
    (subst (AreCombined
    (operator_of c.args.op) c.args.left.now c.args.right.now c.loop-at.outputs) all c.loop-at.invariant.1) j less
