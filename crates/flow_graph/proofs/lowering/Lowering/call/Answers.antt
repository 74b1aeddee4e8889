-- Each argument is compiled; a call that no run makes is none.
use Rattle.std.proofs.Common.{◌≡◌, ◌+◌, ◌++◌, ◌∷◌, [], drop, length, map, inl, inr, sym, ◌∙◌, ap, subst, arith, length-append}
use Rattle.std.specs.Prelude.{IfOk}
use Rattle.std.proofs.lemmas.List.{drop_more, drop_all, length-map, append-nil}
use Rattle.language.specs.Value.{value_of, values_of}
use Rattle.language.specs.Resolve.{number_of, resolve_expression}
use Rattle.trees.specs.Trees.{name_of, expr_of, exprs_of, proc_of, procs_of}
use Rattle.flow_graph.specs.Bits.{coded}
use Rattle.flow_graph.specs.Formulas.{says, FormulaSays}
use Rattle.flow_graph.specs.Lowering.{lowering_scope}
use Rattle.flow_graph.specs.Views.{scope_seen}
use Rattle.flow_graph.proofs.FlowLemmas.{does_no_call, does_calls, more_said}
use Rattle.flow_graph.proofs.lowering.Lowering.call.Goals as goal

pub returns-then-callee-self : goal.returns-then-callee-self
returns-then-callee-self g c target mask has =
    let s = lowering_scope c.args.self.now in
    let procs = c.args.self.now.scope.procedures.now in
    let e = ap (λ t. number_of t s.procedures) c.as_str.ensures.value in
    let count : length s.procedures ≡ length procs = length-map (procs_of procs) _ ∙ length-map procs proc_of in
    let callee = c.number_of_procedure-callee.ensures in
    does_no_call c.nowhere.result target _ _ c.args.back _
    (inl (λ less. omega (arith, less, e, count, callee, c.if-callee-self.true))) (c.nowhere.ensures _)

pub returns-then-es-self : goal.returns-then-es-self
returns-then-es-self g c target mask has =
    let s = lowering_scope c.args.self.now in
    let es = c.args.es.now in
    let count : length (map (resolve_expression s) (exprs_of es)) ≡ length es = length-map (exprs_of es) (resolve_expression s)
    ∙ length-map es expr_of in
    let globals : length s.globals ≡ length c.args.self.now.scope.globals.now = length-map c.args.self.now.scope.globals.now name_of in
    does_no_call c.nowhere-then-es-self.result target _ _ c.args.back _
    (inr (λ few. omega (arith, few, count, globals, c.if-es-self.true))) (c.nowhere-then-es-self.ensures _)

pub overflow_cast-self : goal.overflow_cast-self
overflow_cast-self g c = omega (arith, c.requires.1)

pub overflow_sub-self : goal.overflow_sub-self
overflow_sub-self g c = omega (arith, c.requires.1)

pub loop-e-preserved : goal.loop-e-preserved
loop-e-preserved g c =
    let me = c.args.self.now in
    let s = lowering_scope me in
    let es = c.args.es.now in
    let i = c.loop-e.e-index in
    let old = c.loop-e.arguments.items in
    let made = c.in_ok-put.ensures in
    let f = made.0 in
    let says_so = subst (λ r. IfOk r (λ f. FormulaSays f (scope_seen me.scope) (expr_of c.e-item.result))) made.1 c.formula.ensures in
    let next = drop_more es i c.e-item.result c.loop-e-test.true ∙ ap (λ x. x ∷ drop (i + 1) es) (sym c.e-item.is) in (
      omega (arith, c.loop-e.invariant.0, ap length made.2, length-append old (f ∷ [])),
      λ gs ls wide.
          ap (λ l. map (λ f. says f (coded (gs ++ ls))) l ++ values_of gs ls
          (map (resolve_expression s) (exprs_of (drop (i + 1) es)))) made.2
          ∙ more_said (λ f. says f (coded (gs ++ ls))) old f (value_of gs ls (resolve_expression s (expr_of c.e-item.result)))
          (values_of gs ls (map (resolve_expression s) (exprs_of (drop (i + 1) es)))) (says_so gs ls wide)
          ∙ ap (λ l. map (λ f. says f (coded (gs ++ ls))) old ++ values_of gs ls (map (resolve_expression s) (exprs_of l))) (sym next)
          ∙ c.loop-e.invariant.1 gs ls wide,
    )

pub returns : goal.returns
returns g c target mask has =
    let s = lowering_scope c.args.self.now in
    let procs = c.args.self.now.scope.procedures.now in
    let es = c.args.es.now in
    let e = ap (λ t. number_of t s.procedures) c.as_str.ensures.value in
    let count : length s.procedures ≡ length procs = length-map (procs_of procs) _ ∙ length-map procs proc_of in
    let globals : length s.globals ≡ length c.args.self.now.scope.globals.now = length-map c.args.self.now.scope.globals.now name_of in
    let callee = c.number_of_procedure-callee.ensures ∙ e in
    does_calls _ target _ (map (resolve_expression s) (exprs_of es)) s _ callee (c.new.ensures ∙ sym globals)
    (omega (arith, callee, count, c.if-callee-self.false))
    (λ gs ls wide.
    sym (append-nil (map (λ f. says f (coded (gs ++ ls))) c.loop-e.arguments.items))
    ∙ ap (λ l. map (λ f. says f (coded (gs ++ ls))) c.loop-e.arguments.items ++ values_of gs ls (map (resolve_expression s) (exprs_of l)))
    (sym (drop_all c.loop-e.e-index es c.loop-e-test.false))
    ∙ c.loop-e.invariant.1 gs ls wide)
    mask has
