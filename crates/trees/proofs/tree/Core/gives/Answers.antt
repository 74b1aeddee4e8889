use Rattle.std.proofs.Common.{◌∙◌, ap, sym}
use Rattle.language.specs.Parts.{gives}
use Rattle.trees.specs.Trees.{deed_of}
use Rattle.trees.specs.Parts.{head_of}
use Rattle.trees.proofs.Folds.{deed_of-Give}
use Rattle.trees.proofs.tree.Core.gives.Goals as goal

pub returns-in-Give : goal.returns-in-Give
returns-in-Give g c = sym (ap (λ d. gives (head_of d)) (ap deed_of c.in-Give.is ∙ deed_of-Give _))
