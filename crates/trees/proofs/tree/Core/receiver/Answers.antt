use Rattle.std.proofs.Common.{◌∙◌, ap, sym}
use Rattle.trees.specs.Trees.{deed_of}
use Rattle.trees.specs.Parts.{head_of, receiver_of}
use Rattle.trees.proofs.Folds.{deed_of-CallTo}
use Rattle.trees.proofs.tree.Core.receiver.Goals as goal

pub returns-in-CallTo : goal.returns-in-CallTo
returns-in-CallTo g c = sym (ap (λ d. receiver_of (head_of d)) (ap deed_of c.in-CallTo.is ∙ deed_of-CallTo _ _ _))
