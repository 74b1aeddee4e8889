-- A constant and a variable are one step; of two operands the one that needs more comes first.
use Rattle.std.proofs.Common.{◌<◌, ◌≤◌, ◌∙◌, sym, ap, subst, arith}
use Rattle.std.proofs.lemmas.Result.{IfOk-weaker}
use Rattle.trees.specs.Trees.{expr_of}
use Rattle.trees.proofs.Folds.{expr_of-Const, expr_of-Var, expr_of-Not, expr_of-Two}
use Rattle.flow_graph.specs.Located.{located}
use Rattle.flow_graph.specs.Postfix.{need, PutsSteps}
use Rattle.flow_graph.specs.Views.{scope_seen}
use Rattle.flow_graph.specs.declared.postfix.Instruction.TheVariants.{Constant}
use Rattle.flow_graph.proofs.Codes.{one_put, constant_read, turned, applied, swapped}
use Rattle.flow_graph.proofs.scope.Scope.+put.Goals as goal

pub returns-in-Const : goal.returns-in-Const
returns-in-Const g t c =
    let s = scope_seen c.args.self.now in
    let old = c.args.steps.now.items in
    let new = c.push.new.list.items in
    let b = c.in-Const.b in
    IfOk-weaker c.push.result _ _
    (λ u is. subst (λ e. PutsSteps old new (located s e)) (sym (ap expr_of c.in-Const.is ∙ expr_of-Const g.row.N.Denot b))
    (one_put _ old new (Constant b) (constant_read b) is))
    c.push.ensures

pub returns-in-Var : goal.returns-in-Var
returns-in-Var g t c =
    let s = scope_seen c.args.self.now in
    let old = c.args.steps.now.items in
    let new = c.push-in-Var.new.list.items in
    IfOk-weaker c.push-in-Var.result _ _
    (λ u is. subst (λ e. PutsSteps old new (located s e)) (sym (ap expr_of c.in-Var.is ∙ expr_of-Var c.in-Var.x))
    (one_put _ old new c.reading.result c.reading.ensures is))
    c.push-in-Var.ensures

pub returns-in_ok-put-in-Not : goal.returns-in_ok-put-in-Not
returns-in_ok-put-in-Not g t c =
    let s = scope_seen c.args.self.now in
    let old = c.args.steps.now.items in
    let mid = c.put.new.steps.items in
    let new = c.push-in-Not.new.list.items in
    IfOk-weaker c.push-in-Not.result _ _
    (λ u is. subst (λ e. PutsSteps old new (located s e)) (sym (ap expr_of c.in-Not.is ∙ expr_of-Not c.in-Not.a))
    (turned (located s (expr_of c.in-Not.a.value)) old mid new
    (subst (λ e. PutsSteps old mid (located s (expr_of e))) c.deref.ensures c.in_ok-put-in-Not.ensures) is))
    c.push-in-Not.ensures

pub returns-in_ok-put-in-Two-2 : goal.returns-in_ok-put-in-Two-2
returns-in_ok-put-in-Two-2 g t c =
    let s = scope_seen c.args.self.now in
    let old = c.args.steps.now.items in
    let left = c.put-then-need.new.steps.items in
    let right = c.put-then-need-2.new.steps.items in
    let new = c.push-then-need.new.list.items in
    let less : need (located s (expr_of c.in-Two.a.value)) < need (located s (expr_of c.in-Two.b.value)) =
    omega (
      arith,
      ap (λ e. need (located s (expr_of e))) c.deref-in-Two.ensures,
      ap (λ e. need (located s (expr_of e))) c.deref-in-Two-2.ensures,
    ) in
    IfOk-weaker c.push-then-need.result _ _
    (λ u is. subst (λ e. PutsSteps old new (located s e)) (sym (ap expr_of c.in-Two.is ∙ expr_of-Two c.in-Two.op c.in-Two.a c.in-Two.b))
    (swapped (located s (expr_of c.in-Two.a.value)) (located s (expr_of c.in-Two.b.value)) c.in-Two.op old left right new less
    (subst (λ e. PutsSteps old left (located s (expr_of e))) c.deref-then-need.ensures c.in_ok-put-in-Two.ensures)
    (subst (λ e. PutsSteps left right (located s (expr_of e))) c.deref-then-need-2.ensures c.in_ok-put-in-Two-2.ensures) is))
    c.push-then-need.ensures

pub returns-in_ok-put-in-Two-4 : goal.returns-in_ok-put-in-Two-4
returns-in_ok-put-in-Two-4 g t c =
    let s = scope_seen c.args.self.now in
    let old = c.args.steps.now.items in
    let left = c.put-else-need.new.steps.items in
    let right = c.put-else-need-2.new.steps.items in
    let new = c.push-else-need.new.list.items in
    let more : need (located s (expr_of c.in-Two.b.value)) ≤ need (located s (expr_of c.in-Two.a.value)) =
    omega (
      arith,
      ap (λ e. need (located s (expr_of e))) c.deref-in-Two.ensures,
      ap (λ e. need (located s (expr_of e))) c.deref-in-Two-2.ensures,
    ) in
    IfOk-weaker c.push-else-need.result _ _
    (λ u is. subst (λ e. PutsSteps old new (located s e)) (sym (ap expr_of c.in-Two.is ∙ expr_of-Two c.in-Two.op c.in-Two.a c.in-Two.b))
    (applied (located s (expr_of c.in-Two.a.value)) (located s (expr_of c.in-Two.b.value)) c.in-Two.op old left right new more
    (subst (λ e. PutsSteps old left (located s (expr_of e))) c.deref-else-need.ensures c.in_ok-put-in-Two-3.ensures)
    (subst (λ e. PutsSteps left right (located s (expr_of e))) c.deref-else-need-2.ensures c.in_ok-put-in-Two-4.ensures) is))
    c.push-else-need.ensures
