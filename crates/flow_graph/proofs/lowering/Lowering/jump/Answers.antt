-- If the label is found, the run continues at its point, else nowhere.
use Rattle.std.proofs.Common.{option_map, sym, ◌∙◌, ap, subst, arith}
use Rattle.std.specs.String.{string_bytes}
use Rattle.std.proofs.lemmas.Result.{IfOk-weaker}
use Rattle.language.specs.Tree.{done}
use Rattle.language.specs.Rest.{rest_from}
use Rattle.flow_graph.specs.Nodes.{point_at, goes}
use Rattle.flow_graph.specs.Lowering.{lowered_routine, lowering_scope, DoesIn}
use Rattle.flow_graph.proofs.LoweringLemmas.{goes_found, goes_lost}
use Rattle.flow_graph.proofs.lowering.Lowering.jump.Goals as goal

pub returns-in-Some : goal.returns-in-Some
returns-in-Some g c =
    IfOk-weaker c.jump_to.result (λ f. DoesIn c.args.self.now f (goes c.in-Some.to)) _
    (λ f d few.
    let found = c.find.ensures (lowering_scope c.args.self.now) done (omega (arith, few)) in
    subst (DoesIn c.args.self.now f)
    (sym (goes_found (rest_from (string_bytes c.args.label.now.text) (lowered_routine c.args.self.now).body done) c.in-Some.to
    (ap (λ x. option_map point_at (rest_from x (lowered_routine c.args.self.now).body done)) (sym c.as_str.ensures.value) ∙
    sym found ∙ c.in-Some.is)))
    d)
    c.jump_to.ensures

pub returns-in-None : goal.returns-in-None
returns-in-None g c few =
    let found = c.find.ensures (lowering_scope c.args.self.now) done (omega (arith, few)) in
    subst (DoesIn c.args.self.now c.nowhere.result)
    (sym (goes_lost (rest_from (string_bytes c.args.label.now.text) (lowered_routine c.args.self.now).body done)
    (ap (λ x. option_map point_at (rest_from x (lowered_routine c.args.self.now).body done)) (sym c.as_str.ensures.value) ∙
    sym found ∙ c.in-None.is)))
    (c.nowhere.ensures _)
