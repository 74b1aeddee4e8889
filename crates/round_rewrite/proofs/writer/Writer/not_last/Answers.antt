use Rattle.std.proofs.Common.{◌∙◌, ap}
use Rattle.language.specs.Tree.{negation, value, assume}
use Rattle.trees.specs.Trees.{simple}
use Rattle.trees.proofs.Folds.{deed_of-Assume}
use Rattle.round_rewrite.proofs.writer.Writer.not_last.Goals as goal

pub returns : goal.returns
returns g c =
    let other = c.in_ok-other.ensures ∙ ap negation c.in_ok-is_last.ensures in
    deed_of-Assume _ ∙ (λ i. simple (assume (value (other i))))
