-- A write that reads few leaves the question to those after it.
use Rattle.std.proofs.Common.{◌+◌, ◌∷◌, false, cond, drop, sym, ap, ◌∙◌}
use Rattle.std.proofs.lemmas.List.{drop_more}
use Rattle.flow_graph.specs.Joining.{all_read_few}
use Rattle.flow_graph.proofs.joining.all_read_few.Goals as goal

pub loop-write-preserved : goal.loop-write-preserved
loop-write-preserved g c =
    let ws = c.args.writes.now in
    let i = c.loop-write.write-index in
    let rest = drop (i + 1) ws in
    sym (ap all_read_few (drop_more ws i c.write-item.result c.loop-write-test.true ∙ ap (λ x. x ∷ rest) (sym c.write-item.is))
    ∙ ap (λ b. cond b (all_read_few rest) false) (sym c.reads_few.ensures ∙ c.if-not-reads_few.false))
    ∙ c.loop-write.invariant
