use Rattle.std.proofs.Common.{rules}
use Rattle.trees.specs.Trees.{proc_of}
use Rattle.checked.specs.Faults.{MislabelledIn}
use Rattle.scopes.proofs.Earliest.{found_in_ok}
use Rattle.scopes.proofs.labels.first_bad_label.Goals as goal

pub returns : goal.returns
returns g c =
    found_in_ok _ _ (λ p n. MislabelledIn n p) proc_of c.args.program.now.procs.items c.try_earliest.result
    (λ y a k. search rules) (rw c.deref.ensures.value at c.try_earliest.ensures)
