use Rattle.std.proofs.Common.{◌∙◌}
use Rattle.language.specs.Tree.{call_for}
use Rattle.trees.specs.Trees.{simple}
use Rattle.trees.proofs.Folds.{deed_of-CallTo}
use Rattle.round_rewrite.proofs.writer.Writer.called.Goals as goal

pub returns : goal.returns
returns g c =
    deed_of-CallTo _ _ _
    ∙ (λ i. simple (call_for (c.in_ok-target.ensures i) (c.in_ok-name.ensures i) (c.in_ok-arguments.ensures i)))
