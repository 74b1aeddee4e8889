use Rattle.std.proofs.Common.{cond, ◌∙◌, ap}
use Rattle.std.proofs.lemmas.Result.{IfOk-weaker}
use Rattle.trees.specs.Trees.{name_of, items_of, all_before}
use Rattle.round_rewrite.specs.Table.{no_mark, received}
use Rattle.round_rewrite.specs.Writing.{naming_of}
use Rattle.round_rewrite.proofs.AppendLemmas.{made}
use Rattle.round_rewrite.proofs.writer.Writer.call_for.Goals as goal

pub returns-then-is_shared : goal.returns-then-is_shared
returns-then-is_shared g c =
    let w = naming_of c.args.self.now in
    let last = c.args.self.now.rounds.last in
    let x = name_of c.args.x.now in
    let called = made c.called.result _ _ no_mark _ c.in_ok-push_made.ensures c.called.ensures in
    let tested = made c.stop_test.result _ _ no_mark _ c.in_ok-push_made-2.ensures c.stop_test.ensures in
    IfOk-weaker c.received.result _ _
    (λ _ l k. l k ∙ (ap (λ b. all_before (items_of c.push_made-2.new.into.items) (cond b (received w last x k) k)) c.if-is_shared.ensures
    ∙ (tested _ ∙ called _)))
    c.received.ensures

pub returns-else-is_shared : goal.returns-else-is_shared
returns-else-is_shared g c = λ k.
    let w = naming_of c.args.self.now in
    let last = c.args.self.now.rounds.last in
    let x = name_of c.args.x.now in
    let called = made c.called.result _ _ no_mark _ c.in_ok-push_made.ensures c.called.ensures in
    let tested = made c.stop_test.result _ _ no_mark _ c.in_ok-push_made-2.ensures c.stop_test.ensures in
    ap (λ b. all_before (items_of c.push_made-2.new.into.items) (cond b (received w last x k) k)) c.if-is_shared.ensures
    ∙ (tested _ ∙ called _)
