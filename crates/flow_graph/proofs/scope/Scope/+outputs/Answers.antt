-- The outputs of an expression from those of its operands.
use Rattle.std.proofs.Common.{◌∙◌, true, replicate, refl, sym, ap, subst}
use Rattle.std.specs.Prelude.{IfSome}
use Rattle.std.proofs.lemmas.Option.{IfSome_then}
use Rattle.trees.specs.Trees.{operator_of, expr_of}
use Rattle.trees.proofs.Folds.{expr_of-Var, expr_of-Not, expr_of-Two}
use Rattle.flow_graph.specs.Located.{located, read_of}
use Rattle.flow_graph.specs.Tables.{Tabulates}
use Rattle.flow_graph.specs.Views.{scope_seen}
use Rattle.flow_graph.proofs.Rows.{constant, complemented, operated, decided_left, widens_more}
use Rattle.flow_graph.proofs.scope.Scope.+outputs.Goals as goal

pub returns-in_ok-of-in-Not-clause-outputs : goal.returns-in_ok-of-in-Not-clause-outputs
returns-in_ok-of-in-Not-clause-outputs g t c =
    let s = scope_seen c.args.self.now in
    let known = c.args.known.now in
    let xs = c.outputs.new.inputs.items in
    let ones = replicate 16 18446744073709551615 in
    subst (λ e. Tabulates known.bits.now known.row xs c.combined.result (located s e))
    (sym (ap expr_of c.in-Not.is ∙ expr_of-Not c.in-Not.a))
    (complemented known.bits.now known.row xs c.in_ok-of-in-Not.of ones c.combined.result
    (located s (expr_of c.in-Not.a.value)) (constant ones true refl) c.combined.ensures
    (subst (λ e. Tabulates known.bits.now known.row xs c.in_ok-of-in-Not.of (located s (expr_of e))) c.deref.ensures
    c.in_ok-of-in-Not.ensures.outputs))

pub returns-in-Some-decided-clause-outputs : goal.returns-in-Some-decided-clause-outputs
returns-in-Some-decided-clause-outputs g t c =
    let s = scope_seen c.args.self.now in
    let known = c.args.known.now in
    let xs = c.outputs-in-Two.new.inputs.items in
    subst (λ e. Tabulates known.bits.now known.row xs c.in-Some-decided.whole (located s e))
    (sym (ap expr_of c.in-Two.is ∙ expr_of-Two c.in-Two.op c.in-Two.a c.in-Two.b))
    (decided_left known.bits.now known.row xs c.in_ok-left-in-Two.left c.in-Some-decided.whole (operator_of c.in-Two.op)
    (located s (expr_of c.in-Two.a.value)) (located s (expr_of c.in-Two.b.value))
    (subst (λ e. Tabulates known.bits.now known.row xs c.in_ok-left-in-Two.left (located s (expr_of e))) c.deref-in-Two.ensures
    c.in_ok-left-in-Two.ensures.outputs)
    c.in-Some-decided.ensures)

pub returns-in_ok-right-in-Two-clause-outputs : goal.returns-in_ok-right-in-Two-clause-outputs
returns-in_ok-right-in-Two-clause-outputs g t c =
    let s = scope_seen c.args.self.now in
    let known = c.args.known.now in
    let xs = c.outputs-in-Two.new.inputs.items in
    let ys = c.outputs-in-Two-2.new.inputs.items in
    subst (λ e. Tabulates known.bits.now known.row ys c.combined-in-Two.result (located s e))
    (sym (ap expr_of c.in-Two.is ∙ expr_of-Two c.in-Two.op c.in-Two.a c.in-Two.b))
    (operated known.bits.now known.row xs ys c.in_ok-left-in-Two.left c.in_ok-right-in-Two.right c.combined-in-Two.result
    (operator_of c.in-Two.op)
    (located s (expr_of c.in-Two.a.value)) (located s (expr_of c.in-Two.b.value)) c.outputs-in-Two-2.ensures.widens
    (subst (λ e. Tabulates known.bits.now known.row xs c.in_ok-left-in-Two.left (located s (expr_of e))) c.deref-in-Two.ensures
    c.in_ok-left-in-Two.ensures.outputs)
    (subst (λ e. Tabulates known.bits.now known.row ys c.in_ok-right-in-Two.right (located s (expr_of e))) c.deref-in-Two-2.ensures
    c.in_ok-right-in-Two.ensures.outputs)
    c.combined-in-Two.ensures)

pub returns-in-None-value-clause-outputs : goal.returns-in-None-value-clause-outputs
returns-in-None-value-clause-outputs g t c =
    let s = scope_seen c.args.self.now in
    let known = c.args.known.now in
    subst (λ e. IfSome c.read.result (λ w. Tabulates known.bits.now known.row c.read.new.inputs.items w e))
    (ap read_of (sym c.in-Some.is ∙ c.bit.ensures.bit) ∙ sym (ap (located s) (ap expr_of c.in-Var.is ∙ expr_of-Var c.in-Var.x)))
    (IfSome_then c.read.result c.read.ensures.outputs (λ w reads f j less k h. reads f j less h))

pub returns-in_err-right-in-Two-clause-widens : goal.returns-in_err-right-in-Two-clause-widens
returns-in_err-right-in-Two-clause-widens g t c =
    widens_more c.args.inputs.now.items c.outputs-in-Two.new.inputs.items c.outputs-in-Two-2.new.inputs.items
    c.in_ok-left-in-Two.ensures.widens c.outputs-in-Two-2.ensures.widens

pub returns-in_ok-right-in-Two-clause-widens : goal.returns-in_ok-right-in-Two-clause-widens
returns-in_ok-right-in-Two-clause-widens g t c =
    widens_more c.args.inputs.now.items c.outputs-in-Two.new.inputs.items c.outputs-in-Two-2.new.inputs.items
    c.in_ok-left-in-Two.ensures.widens c.in_ok-right-in-Two.ensures.widens
