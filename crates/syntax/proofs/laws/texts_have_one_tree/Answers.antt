use Rattle.syntax.proofs.OneTree.{one_tree, no_fault, one_fault}
use Rattle.syntax.proofs.laws.texts_have_one_tree.Goals as goal

pub returns : goal.returns
returns c = record { one_tree = one_tree; no_fault = no_fault; one_fault = one_fault }
