use Rattle.std.proofs.Common.{◌≡◌, ◌↔◌, ◌∙◌, sym, ap, subst, Some, slice_get}
use Rattle.flow_graph.specs.Drawn.{graphs_of, entered_from}
use Rattle.turns.specs.Numbered.{CallsFrom, placed, places_in}
use Rattle.turns.specs.declared.numbered_frame.NumberedFrame.{NumberedFrame}
use Rattle.saturation.proofs.StepLemmas.{called_is, first}
use Rattle.saturation.proofs.steps.called.Goals as goal

pub returns : goal.returns
returns g c =
    let graphs = graphs_of c.args.graphs.now in
    let graph = c.in_ok-graph.graph.now in
    let called = c.in_ok-called.called.now in
    let at = c.in_ok-call.ensures.some ∙ ap Some c.in-Call.is in
    let there = ap (slice_get graphs) (sym c.callee-callee.ensures) ∙ c.in_ok-called.ensures.some in
    let same : c.parts.result.1 ≡ first graphs c.args.globals c.args.frame graph called c.in-Call.call c.in_ok-graph.ensures.some at there =
    c.parts.ensures.frame
    ∙ (λ i. placed (c.callee-callee.ensures i) (c.start.ensures i)
    (places_in called ((c.entry-entered.ensures ∙ ap (entered_from c.in-Call.call) c.valuation.ensures) i))) in
    subst (λ z. (e w : NumberedFrame) → CallsFrom graphs c.args.globals c.args.frame e w ↔ ((Some z ≡ Some e) × (w ≡ c.args.frame)))
    (sym same)
    (called_is graphs c.args.globals c.args.frame graph called c.in-Call.call c.in_ok-graph.ensures.some at there)
