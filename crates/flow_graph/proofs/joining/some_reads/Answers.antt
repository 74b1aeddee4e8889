-- A write that does not read the bit leaves the question to those after it.
use Rattle.std.proofs.Common.{◌+◌, ◌∷◌, true, cond, drop, sym, ap, ◌∙◌}
use Rattle.std.proofs.lemmas.List.{drop_more}
use Rattle.flow_graph.specs.Joining.{some_reads}
use Rattle.flow_graph.proofs.joining.some_reads.Goals as goal

pub loop-write-preserved : goal.loop-write-preserved
loop-write-preserved g c =
    let ws = c.args.writes.now in
    let i = c.loop-write.write-index in
    let bit = c.args.bit in
    let w = c.write-item.result in
    let rest = drop (i + 1) ws in
    sym (ap (λ l. some_reads l bit) (drop_more ws i w c.loop-write-test.true ∙ ap (λ x. x ∷ rest) (sym c.write-item.is))
    ∙ ap (λ b. cond b true (some_reads rest bit)) (sym c.reads.ensures ∙ c.if-reads.false))
    ∙ c.loop-write.invariant
