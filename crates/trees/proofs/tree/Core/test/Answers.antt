use Rattle.std.proofs.Common.{◌∙◌, ap, sym}
use Rattle.language.specs.Parts.{test_of}
use Rattle.trees.specs.Trees.{deed_of}
use Rattle.trees.specs.Parts.{head_of}
use Rattle.trees.proofs.Folds.{deed_of-While}
use Rattle.trees.proofs.tree.Core.test.Goals as goal

pub returns-in-While : goal.returns-in-While
returns-in-While g c = sym (ap (λ d. test_of (head_of d)) (ap deed_of c.in-While.is ∙ deed_of-While _ _))
