use Rattle.std.proofs.Common.{◌∙◌, ap}
use Rattle.trees.specs.Trees.{deed_of}
use Rattle.trees.specs.Parts.{head_of, assigned_by}
use Rattle.trees.proofs.Folds.{deed_of-Assign}
use Rattle.trees.proofs.tree.Core.targets.Goals as goal

pub returns-in-Assign : goal.returns-in-Assign
returns-in-Assign g c =
    let e = ap (λ d. assigned_by (head_of d)) (ap deed_of c.in-Assign.is ∙ deed_of-Assign _ _) in
    cc
