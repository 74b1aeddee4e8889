-- Each write is made of what is after_writes so far.
use Rattle.std.proofs.Common.{◌∷◌, ◌+◌, drop, sym, ◌∙◌, ap}
use Rattle.std.proofs.lemmas.List.{drop_more, drop_all}
use Rattle.flow_graph.specs.Assignments.{after_writes, masked, choice_left}
use Rattle.flow_graph.proofs.assignment.after_writes.Goals as goal

pub loop-write-preserved : goal.loop-write-preserved
loop-write-preserved g c =
    let ws = c.args.writes.now in
    let i = c.loop-write.write-index in
    let w = c.write-item.result in
    let rest = drop (i + 1) ws in
    let values = c.args.values in
    let whole = drop_more ws i w c.loop-write-test.true ∙ ap (λ x. x ∷ rest) (sym c.write-item.is) in
    let next = c.masked-next.ensures ∙ ap (masked c.loop-write.next w.mask) c.value.ensures in
    ap (λ left. after_writes rest values left c.masked-next.result) c.choice_left-left.ensures
    ∙ ap (after_writes rest values (choice_left w.side c.loop-write.left)) next
    ∙ ap (λ l. after_writes l values c.loop-write.left c.loop-write.next) (sym whole)
    ∙ c.loop-write.invariant

pub returns : goal.returns
returns g c =
    let values = c.args.values in
    let all = drop_all c.loop-write.write-index c.args.writes.now c.loop-write-test.false in
    sym (ap (λ l. after_writes l values c.loop-write.left c.loop-write.next) all) ∙ c.loop-write.invariant
