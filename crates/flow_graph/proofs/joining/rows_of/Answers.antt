-- Each row has what is written by its values.
use Rattle.std.proofs.Common.{◌≡◌, ◌+◌, ◌≤◌, ◌^◌, length, sym, subst, ap, ◌∙◌, arith}
use Rattle.std.proofs.Math.Pow.{pow_mono}
use Rattle.flow_graph.specs.Assignments.{after_writes}
use Rattle.flow_graph.specs.Joining.{AreRows}
use Rattle.flow_graph.proofs.JointLemmas.{one_more_row}
use Rattle.flow_graph.proofs.joining.rows_of.Goals as goal

pub loop-row-preserved : goal.loop-row-preserved
loop-row-preserved g c =
    let ws = c.args.writes.now in
    let bits = c.args.bits.now in
    let row = c.loop-row.row in
    let old = c.loop-row.rows.items in
    let written = c.after_writes-written.result in
    let right = c.after_writes-written.ensures ∙ ap (λ v. after_writes ws v 0 0) c.placed.ensures in
    subst (λ rows. AreRows ws bits rows (row + 1)) (sym c.in_ok-push.ensures.items)
    (one_more_row ws bits old row written c.loop-row.invariant right)

pub returns : goal.returns
returns g c =
    let n = length c.args.bits.now in
    let most : 2 ^ n ≤ 2 ^ 10 = pow_mono (let z : n ≤ 10 = omega (arith, c.requires.few) in z) in
    let all : c.loop-row.row ≡ 2 ^ n = omega (arith, most, c.loop-row-test.false, c.loop-row.auto.row-end) in
    subst (AreRows c.args.writes.now c.args.bits.now c.loop-row.rows.items) all c.loop-row.invariant
