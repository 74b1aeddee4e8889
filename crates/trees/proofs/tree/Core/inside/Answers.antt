use Rattle.std.proofs.Common.{◌∙◌, ap, sym}
use Rattle.trees.specs.Trees.{block_of, deed_of}
use Rattle.trees.specs.Parts.{first_inside, second_inside}
use Rattle.trees.proofs.Folds.{deed_of-If, deed_of-While}
use Rattle.trees.proofs.tree.Core.inside.Goals as goal

pub returns-in-If-clause-first : goal.returns-in-If-clause-first
returns-in-If-clause-first g c =
    ap block_of c.deref.ensures.value ∙ sym (ap first_inside (ap deed_of c.in-If.is ∙ deed_of-If _ _ _))

pub returns-in-If-clause-second : goal.returns-in-If-clause-second
returns-in-If-clause-second g c =
    ap block_of c.deref-in-If.ensures.value ∙ sym (ap second_inside (ap deed_of c.in-If.is ∙ deed_of-If _ _ _))

pub returns-in-While-clause-first : goal.returns-in-While-clause-first
returns-in-While-clause-first g c =
    ap block_of c.deref-in-While.ensures.value ∙ sym (ap first_inside (ap deed_of c.in-While.is ∙ deed_of-While _ _))

pub returns-in-While-clause-second : goal.returns-in-While-clause-second
returns-in-While-clause-second g c = sym (ap second_inside (ap deed_of c.in-While.is ∙ deed_of-While _ _))
