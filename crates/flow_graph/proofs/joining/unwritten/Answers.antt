-- Each write takes its bits from the mask so far.
use Rattle.std.proofs.Common.{◌+◌, ◌∷◌, drop, sym, ap, ◌∙◌}
use Rattle.std.proofs.lemmas.List.{drop_more}
use Rattle.flow_graph.specs.Joining.{unwritten}
use Rattle.flow_graph.proofs.joining.unwritten.Goals as goal

pub loop-write-preserved : goal.loop-write-preserved
loop-write-preserved g c =
    let ws = c.args.writes.now in
    let i = c.loop-write.write-index in
    let kept = c.loop-write.kept in
    let w = c.write-item.result in
    let rest = drop (i + 1) ws in
    ap (unwritten rest) c.masked-kept.ensures
    ∙ sym (ap (λ l. unwritten l kept) (drop_more ws i w c.loop-write-test.true ∙ ap (λ x. x ∷ rest) (sym c.write-item.is)))
    ∙ c.loop-write.invariant
