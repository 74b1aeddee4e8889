use Rattle.std.proofs.Common.{◌∙◌, ap, sym}
use Rattle.language.specs.Parts.{sides_of}
use Rattle.trees.specs.Trees.{rhss_of, deed_of}
use Rattle.trees.specs.Parts.{head_of}
use Rattle.trees.proofs.Folds.{deed_of-Assign}
use Rattle.trees.proofs.tree.Core.sides.Goals as goal

pub returns-in-Assign : goal.returns-in-Assign
returns-in-Assign g c =
    ap rhss_of c.deref.ensures.value
    ∙ sym (ap (λ d. sides_of (head_of d)) (ap deed_of c.in-Assign.is ∙ deed_of-Assign _ _))
