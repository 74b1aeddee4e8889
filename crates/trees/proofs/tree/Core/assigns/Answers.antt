use Rattle.std.proofs.Common.{◌∙◌, ap, sym}
use Rattle.language.specs.Parts.{assigns}
use Rattle.trees.specs.Trees.{deed_of}
use Rattle.trees.specs.Parts.{head_of}
use Rattle.trees.proofs.Folds.{deed_of-Assign}
use Rattle.trees.proofs.tree.Core.assigns.Goals as goal

pub returns-in-Assign : goal.returns-in-Assign
returns-in-Assign g c = sym (ap (λ d. assigns (head_of d)) (ap deed_of c.in-Assign.is ∙ deed_of-Assign _ _))
