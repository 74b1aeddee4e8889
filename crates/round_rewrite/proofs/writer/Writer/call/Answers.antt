use Rattle.std.proofs.Common.{◌∙◌}
use Rattle.std.proofs.lemmas.Result.{IfOk-weaker}
use Rattle.language.specs.Tree.{call}
use Rattle.trees.specs.Trees.{simple}
use Rattle.round_rewrite.specs.Table.{no_mark}
use Rattle.round_rewrite.proofs.AppendLemmas.{laid, made}
use Rattle.trees.proofs.Folds.{deed_of-Call}
use Rattle.round_rewrite.proofs.writer.Writer.call.Goals as goal

pub returns : goal.returns
returns g c =
    let deed = deed_of-Call _ _ ∙ (λ i. simple (call (c.in_ok-name.ensures i) (c.in_ok-arguments.ensures i))) in
    let called = laid _ _ no_mark _ _ c.in_ok-push.ensures deed in
    IfOk-weaker c.push_made.result _ _
    (λ _ l k. made c.stop_test.result _ _ no_mark _ l c.stop_test.ensures k ∙ called _) c.push_made.ensures
