-- Each statement leads where its node does.
use Rattle.std.proofs.Common.{◌≡◌, ◌+◌, suc, None, Some, refl, sym, ◌∙◌, ap, arith}
use Rattle.std.proofs.lemmas.Result.{IfOk-weaker}
use Rattle.language.specs.Tree.{assign, assert, assume, goto, call, leave_with, call_for, done}
use Rattle.language.specs.Resolve.{place_of}
use Rattle.language.specs.Rest.{rest_from}
use Rattle.language.specs.Sequential.{statements}
use Rattle.trees.specs.Trees.{deed_of, block_of, name_of, names_of, rhs_of, rhss_of, expr_of, exprs_of}
use Rattle.trees.proofs.Held.{held}
use Rattle.trees.proofs.Folds.{deed_of-Assign, deed_of-Assert, deed_of-Assume, deed_of-Goto, deed_of-Call, deed_of-CallTo, deed_of-Give}
use Rattle.trees.proofs.Folds.{deed_of-If, deed_of-While}
use Rattle.flow_graph.specs.Nodes.{point_at, assumes, goes_to}
use Rattle.flow_graph.specs.Lowering.{lowering_scope, lowered_routine, side_in, assignment_in, return_in, call_in}
use Rattle.flow_graph.proofs.CountLemmas.{alone_counts}
use Rattle.flow_graph.proofs.Places.{named_target}
use Rattle.flow_graph.proofs.Statements.{moved, does_simple, does_branch, does_repeat}
use Rattle.flow_graph.proofs.lowering.Lowering.flow.Goals as goal

pub returns-in-Assign : goal.returns-in-Assign
returns-in-Assign g c =
    let l = c.args.self.now in
    let xs = c.in-Assign.xs.items in
    let rs = c.in-Assign.rs.items in
    IfOk-weaker c.assignment.result _ _
    (does_simple l c.args.stmt.now c.args.after c.args.number (assign (names_of xs) (rhss_of rs))
    (assignment_in l c.deref.result.now c.deref-in-Assign.result.now) (ap deed_of c.in-Assign.is ∙ deed_of-Assign _ _)
    (λ k t. assignment_in l (sym c.deref.ensures.value t) (sym c.deref-in-Assign.ensures.value t) (point_at k)))
    c.assignment.ensures

pub returns-in-If : goal.returns-in-If
returns-in-If g c =
    let n = c.args.number in
    let after = c.args.after in
    let a = c.in-If.a.items in
    let core = ap deed_of c.in-If.is ∙ deed_of-If c.in-If.r c.in-If.a c.in-If.b in
    let parts = ap held core in
    let whole = alone_counts c.args.stmt.now in
    let count = ap (λ x. statements (block_of x)) c.deref-in-If-3.ensures.value in
    IfOk-weaker c.test.result _ _
    (does_branch c.args.self.now c.args.stmt.now after n c.first_point-yes.result c.first_point-no.result c.in-If.r a c.in-If.b.items
    core
    (λ few.
    let inside : c.saturating_add-inside.result ≡ suc n = omega (arith, c.saturating_add-inside.ensures, whole, few.1) in
    let size = c.size.ensures (omega (arith, whole, parts, count, few.1)) in
    let second : c.saturating_add.result ≡ suc n + statements (block_of a) =
    omega (arith, inside, size, count, c.saturating_add.ensures, whole, parts, few.1) in (
      moved _ _ _ _ after _ c.deref-in-If.ensures.value inside c.first_point-yes.ensures,
      moved _ _ _ _ after _ c.deref-in-If-2.ensures.value second c.first_point-no.ensures,
    )))
    c.test.ensures

pub returns-in-While : goal.returns-in-While
returns-in-While g c =
    let n = c.args.number in
    let core = ap deed_of c.in-While.is ∙ deed_of-While c.in-While.r c.in-While.a in
    let whole = alone_counts c.args.stmt.now in
    IfOk-weaker c.test-in-While.result _ _
    (does_repeat c.args.self.now c.args.stmt.now c.args.after n c.first_point.result c.in-While.r c.in-While.a.items core
    (λ few.
    let inside : c.saturating_add-in-While.result ≡ suc n = omega (arith, c.saturating_add-in-While.ensures, whole, few.1) in
    moved _ _ _ _ n _ c.deref-in-While.ensures.value inside c.first_point.ensures))
    c.test-in-While.ensures

pub returns-in-Assert : goal.returns-in-Assert
returns-in-Assert g c =
    let r = c.in-Assert.r in
    IfOk-weaker c.assumption.result _ _
    (does_simple c.args.self.now c.args.stmt.now c.args.after c.args.number (assert (rhs_of r))
    (assumes (side_in c.args.self.now r)) (ap deed_of c.in-Assert.is ∙ deed_of-Assert _) (λ k. refl))
    c.assumption.ensures

pub returns-in-Assume : goal.returns-in-Assume
returns-in-Assume g c =
    let r = c.in-Assume.r in
    IfOk-weaker c.assumption-in-Assume.result _ _
    (does_simple c.args.self.now c.args.stmt.now c.args.after c.args.number (assume (rhs_of r))
    (assumes (side_in c.args.self.now r)) (ap deed_of c.in-Assume.is ∙ deed_of-Assume _) (λ k. refl))
    c.assumption-in-Assume.ensures

pub returns-in-Goto : goal.returns-in-Goto
returns-in-Goto g c =
    let l = c.args.self.now in
    let label = name_of c.in-Goto.label in
    IfOk-weaker c.jump.result _ _
    (λ f d k at_k few.
    does_simple l c.args.stmt.now c.args.after c.args.number (goto label)
    (λ to. goes_to (rest_from label.text (lowered_routine l).body done)) (ap deed_of c.in-Goto.is ∙ deed_of-Goto _) (λ z. refl)
    f (d few.0) k at_k few)
    c.jump.ensures

pub returns-in-Call : goal.returns-in-Call
returns-in-Call g c =
    let l = c.args.self.now in
    let p = c.in-Call.p in
    IfOk-weaker c.call.result _ _
    (λ f d.
    does_simple l c.args.stmt.now c.args.after c.args.number (call (name_of p) (exprs_of c.in-Call.es.items))
    (call_in l None p c.deref-in-Call.result.now) (ap deed_of c.in-Call.is ∙ deed_of-Call _ _)
    (λ k t. call_in l None p (sym c.deref-in-Call.ensures.value t) (point_at k)) f (d None refl tt))
    c.call.ensures

pub returns-in-CallTo : goal.returns-in-CallTo
returns-in-CallTo g c =
    let l = c.args.self.now in
    let s = lowering_scope l in
    let x = name_of c.in-CallTo.x in
    let p = c.in-CallTo.p in
    IfOk-weaker c.call-in-CallTo.result _ _
    (λ f d.
    does_simple l c.args.stmt.now c.args.after c.args.number (call_for x (name_of p) (exprs_of c.in-CallTo.es.items))
    (call_in l (Some (place_of s x)) p c.deref-in-CallTo.result.now) (ap deed_of c.in-CallTo.is ∙ deed_of-CallTo _ _ _)
    (λ k t. call_in l (Some (place_of s x)) p (sym c.deref-in-CallTo.ensures.value t) (point_at k)) f
    (d (Some (place_of s x)) c.mask.ensures (named_target s x)))
    c.call-in-CallTo.ensures

pub returns-in-Give : goal.returns-in-Give
returns-in-Give g c =
    let l = c.args.self.now in
    let e = c.in-Give.e in
    IfOk-weaker c.returned.result _ _
    (does_simple l c.args.stmt.now c.args.after c.args.number (leave_with (expr_of e)) (λ to. return_in l e)
    (ap deed_of c.in-Give.is ∙ deed_of-Give _) (λ k. refl))
    c.returned.ensures
