use Rattle.std.proofs.Common.{◌∙◌, ap, sym}
use Rattle.trees.specs.Trees.{deed_of}
use Rattle.trees.specs.Parts.{head_of, given_by}
use Rattle.trees.proofs.Folds.{deed_of-Give}
use Rattle.trees.proofs.tree.Core.given.Goals as goal

pub returns-in-Give : goal.returns-in-Give
returns-in-Give g c = sym (ap (λ d. given_by (head_of d)) (ap deed_of c.in-Give.is ∙ deed_of-Give _))
