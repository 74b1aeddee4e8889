use Rattle.std.proofs.Common.{◌∙◌}
use Rattle.std.proofs.lemmas.Result.{IfOk-weaker}
use Rattle.language.specs.Tree.{done}
use Rattle.trees.specs.Trees.{repeat}
use Rattle.round_rewrite.specs.Table.{no_mark}
use Rattle.round_rewrite.proofs.AppendLemmas.{laid}
use Rattle.trees.proofs.Folds.{deed_of-While}
use Rattle.round_rewrite.proofs.writer.Writer.push_while.Goals as goal

pub returns : goal.returns
returns g c =
    IfOk-weaker c.push.result _ _
    (λ _ l. laid _ _ no_mark _ _ l
    (deed_of-While _ _ ∙ (λ i. repeat (c.in_ok-test.ensures i) (c.in_ok-prologue.ensures done i))))
    c.push.ensures
