use Rattle.std.proofs.Common.{◌∙◌}
use Rattle.std.proofs.lemmas.Result.{IfOk-weaker}
use Rattle.round_rewrite.proofs.AppendLemmas.{laid, made}
use Rattle.round_rewrite.proofs.writer.Writer.prologue.Goals as goal

pub returns : goal.returns
returns g c =
    let risen = laid _ _ _ _ _ c.in_ok-push_marked.ensures c.in_ok-rising.ensures in
    let chosen = made c.stop_choice.result _ _ _ _ c.in_ok-push_made.ensures c.stop_choice.ensures in
    IfOk-weaker c.push_made-2.result _ _
    (λ _ l k. made c.stop_test.result _ _ _ _ l c.stop_test.ensures k ∙ (chosen _ ∙ risen _)) c.push_made-2.ensures
