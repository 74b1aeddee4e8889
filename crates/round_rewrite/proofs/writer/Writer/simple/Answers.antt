use Rattle.std.proofs.Common.{refl, sym, ◌∙◌, ap}
use Rattle.language.specs.Tree.{skip, leave, assign, assume, goto, call, call_for, leave_with}
use Rattle.trees.specs.Trees.{simple, name_of, names_of, rhs_of, rhss_of, expr_of, exprs_of, deed_of}
use Rattle.round_rewrite.specs.Writing.{naming_of}
use Rattle.round_rewrite.proofs.Forms.{core_is, pushed_is}
use Rattle.trees.proofs.Folds.{deed_of-Skip, deed_of-Return, deed_of-Goto, deed_of-Assert, deed_of-Assume, deed_of-Assign, deed_of-Call}
use Rattle.trees.proofs.Folds.{deed_of-CallTo, deed_of-Give}
use Rattle.round_rewrite.proofs.writer.Writer.simple.Goals as goal

pub returns-in-Assert : goal.returns-in-Assert
returns-in-Assert g c =
    core_is (naming_of c.args.self.now) c.args.self.now.rounds.last c.asserted.result (λ _. c.asserted.new.into.items) _ _ _
    (sym (ap deed_of c.in-Assert.is ∙ deed_of-Assert _)) c.asserted.ensures

pub returns-in-Assign : goal.returns-in-Assign
returns-in-Assign g c =
    core_is (naming_of c.args.self.now) c.args.self.now.rounds.last c.assigned.result (λ _. c.assigned.new.into.items) _ _ _
    ((λ i. simple (assign (names_of (c.deref.ensures.value i)) (rhss_of (c.deref-in-Assign.ensures.value i))))
    ∙ sym (ap deed_of c.in-Assign.is ∙ deed_of-Assign _ _)) c.assigned.ensures

pub returns-in-Call : goal.returns-in-Call
returns-in-Call g c =
    core_is (naming_of c.args.self.now) c.args.self.now.rounds.last c.call.result (λ _. c.call.new.into.items) _ _ _
    ((λ i. simple (call (name_of c.in-Call.p) (exprs_of (c.deref-in-Call.ensures.value i))))
    ∙ sym (ap deed_of c.in-Call.is ∙ deed_of-Call _ _)) c.call.ensures

pub returns-in-CallTo : goal.returns-in-CallTo
returns-in-CallTo g c =
    core_is (naming_of c.args.self.now) c.args.self.now.rounds.last c.call_for.result (λ _. c.call_for.new.into.items) _ _ _
    ((λ i. simple (call_for (name_of c.in-CallTo.x) (name_of c.in-CallTo.p) (exprs_of (c.deref-in-CallTo.ensures.value i))))
    ∙ sym (ap deed_of c.in-CallTo.is ∙ deed_of-CallTo _ _ _)) c.call_for.ensures

pub returns-in-Skip : goal.returns-in-Skip
returns-in-Skip g c =
    pushed_is (naming_of c.args.self.now) c.args.self.now.rounds.last c.push.result c.push.new.into.items c.args.into.now.items
    c.args.core.now (simple skip) _ _ (ap deed_of c.in-Skip.is ∙ deed_of-Skip _)
    (deed_of-Skip _)
    (λ k. refl) c.push.ensures

pub returns-in-Return : goal.returns-in-Return
returns-in-Return g c =
    pushed_is
    (naming_of c.args.self.now) c.args.self.now.rounds.last c.push-in-Return.result c.push-in-Return.new.into.items
    c.args.into.now.items
    c.args.core.now (simple leave) _ _ (ap deed_of c.in-Return.is ∙ deed_of-Return _)
    (deed_of-Return _)
    (λ k. refl) c.push-in-Return.ensures

pub returns-in_ok-clone_name-in-Goto : goal.returns-in_ok-clone_name-in-Goto
returns-in_ok-clone_name-in-Goto g c =
    pushed_is
    (naming_of c.args.self.now) c.args.self.now.rounds.last c.push-in-Goto.result c.push-in-Goto.new.into.items c.args.into.now.items
    c.args.core.now (simple (goto (name_of c.in-Goto.l))) _ _ (ap deed_of c.in-Goto.is ∙ deed_of-Goto _)
    (deed_of-Goto _ ∙ ap (λ n. simple (goto n)) c.in_ok-clone_name-in-Goto.ensures)
    (λ k. refl) c.push-in-Goto.ensures

pub returns-in_ok-side-in-Assume : goal.returns-in_ok-side-in-Assume
returns-in_ok-side-in-Assume g c =
    pushed_is
    (naming_of c.args.self.now) c.args.self.now.rounds.last c.push-in-Assume.result c.push-in-Assume.new.into.items
    c.args.into.now.items
    c.args.core.now (simple (assume (rhs_of c.in-Assume.r))) _ _ (ap deed_of c.in-Assume.is ∙ deed_of-Assume _)
    (deed_of-Assume _ ∙ ap (λ r. simple (assume r)) c.in_ok-side-in-Assume.ensures)
    (λ k. refl) c.push-in-Assume.ensures

pub returns-in_ok-expression-in-Give : goal.returns-in_ok-expression-in-Give
returns-in_ok-expression-in-Give g c =
    pushed_is
    (naming_of c.args.self.now) c.args.self.now.rounds.last c.push-in-Give.result c.push-in-Give.new.into.items c.args.into.now.items
    c.args.core.now (simple (leave_with (expr_of c.in-Give.e))) _ _ (ap deed_of c.in-Give.is ∙ deed_of-Give _)
    (deed_of-Give _ ∙ ap (λ e. simple (leave_with e)) c.in_ok-expression-in-Give.ensures)
    (λ k. refl) c.push-in-Give.ensures
