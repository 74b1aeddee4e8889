use Rattle.std.proofs.Common.{◌∙◌, ap}
use Rattle.trees.specs.Trees.{deed_of}
use Rattle.trees.specs.Parts.{head_of, passed_by}
use Rattle.trees.proofs.Folds.{deed_of-Call, deed_of-CallTo}
use Rattle.trees.proofs.tree.Core.arguments.Goals as goal

pub returns-in-Call : goal.returns-in-Call
returns-in-Call g c =
    let e = ap (λ d. passed_by (head_of d)) (ap deed_of c.in-Call.is ∙ deed_of-Call _ _) in
    cc

pub returns-in-CallTo : goal.returns-in-CallTo
returns-in-CallTo g c =
    let e = ap (λ d. passed_by (head_of d)) (ap deed_of c.in-CallTo.is ∙ deed_of-CallTo _ _ _) in
    cc
