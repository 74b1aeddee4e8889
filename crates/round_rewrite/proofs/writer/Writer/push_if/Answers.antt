use Rattle.std.proofs.Common.{◌∙◌}
use Rattle.std.proofs.lemmas.Result.{IfOk-weaker}
use Rattle.trees.specs.Trees.{branch, block_of}
use Rattle.round_rewrite.specs.Table.{no_mark}
use Rattle.round_rewrite.proofs.AppendLemmas.{laid}
use Rattle.trees.proofs.Folds.{deed_of-If}
use Rattle.round_rewrite.proofs.writer.Writer.push_if.Goals as goal

pub returns : goal.returns
returns g c =
    IfOk-weaker c.push.result _ _
    (λ _ l. laid _ _ no_mark _ _ l
    (deed_of-If _ _ _ ∙ (λ i. branch (c.in_ok-test.ensures i) (block_of c.args.yes.items) (block_of c.args.no.items))))
    c.push.ensures
