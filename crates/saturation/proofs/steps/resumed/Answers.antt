use Rattle.std.proofs.Common.{◌≡◌, ◌↔◌, ◌∙◌, ℕ, sym, ap, subst, Some, rules}
use Rattle.flow_graph.specs.Drawn.{graphs_of, resumed_from}
use Rattle.flow_graph.specs.Returns.{left_by}
use Rattle.turns.specs.Numbered.{ReturnsTo, placed, globals_in, places_in}
use Rattle.turns.specs.declared.numbered_frame.NumberedFrame.{NumberedFrame}
use Rattle.saturation.proofs.StepLemmas.{returned_is, after}
use Rattle.saturation.proofs.steps.resumed.Goals as goal

pub returns : goal.returns
returns g c =
    let graphs = graphs_of c.args.graphs.now in
    let graph = c.in_ok-graph.graph.now in
    let own = c.in_ok-own.own.now in
    let finished : c.args.frame.point ≡ 0 = search rules in
    let at = c.in_ok-call.ensures.some ∙ ap Some c.in-Call.is in
    let left = c.left-left.ensures.number ∙ ap (left_by own) c.valuation.ensures in
    let values = c.resumed-values.ensures.number ∙ ap (resumed_from c.in-Call.call c.args.below.places) left in
    let same : c.parts.result
    ≡ after graphs c.args.globals c.args.frame c.args.below own graph c.in-Call.call finished c.in_ok-own.ensures.some c.in_ok-graph.ensures.some at =
    (λ i. (c.parts.ensures.globals i, c.parts.ensures.frame i))
    ∙ (λ i. (globals_in graph (values i), placed c.args.below.procedure (c.back.ensures i) (places_in graph (values i)))) in
    subst (λ z. (h : ℕ) (k : NumberedFrame) → ReturnsTo graphs c.args.globals c.args.frame c.args.below h k ↔ (Some z ≡ Some (h, k)))
    (sym same)
    (returned_is graphs c.args.globals c.args.frame c.args.below own graph c.in-Call.call finished c.in_ok-own.ensures.some
    c.in_ok-graph.ensures.some at)
