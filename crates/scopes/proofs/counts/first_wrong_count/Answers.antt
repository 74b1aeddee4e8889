use Rattle.std.proofs.Common.{subst, rules}
use Rattle.std.specs.Prelude.{IfOk}
use Rattle.trees.specs.Trees.{proc_of, procs_of}
use Rattle.checked.specs.Faults.{AnyOf, MiscountsIn}
use Rattle.scopes.specs.Find.{Finds}
use Rattle.scopes.proofs.Earliest.{found_in_ok}
use Rattle.scopes.proofs.counts.first_wrong_count.Goals as goal

pub returns : goal.returns
returns g c =
    subst (λ ps. IfOk c.try_earliest.result
    (λ r. Finds (λ n. AnyOf (λ p. MiscountsIn (procs_of ps) p n) (procs_of ps)) r))
    c.as_slice-procs.ensures.value
    (found_in_ok _ _ (λ p n. MiscountsIn (procs_of c.as_slice-procs.result.now) p n) proc_of
    c.as_slice-procs.result.now _
    (λ y a k. search rules) c.try_earliest.ensures)
