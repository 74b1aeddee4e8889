use Rattle.std.proofs.Common.{◌≡◌, Option, Some, None}
use Rattle.trees.specs.Trees.{tree_of}
use Rattle.checked.specs.Checked.{FaultStands}
use Rattle.checked.specs.declared.fault.ScopeFault.{ScopeFault}
use Rattle.scopes.specs.First.{FindsFirst}
use Rattle.scopes.proofs.checking.check.Goals as goal

-- if no fault is found, none stands
none_stands : (S : ScopeFault → Type 0) (found : Option ScopeFault) → FindsFirst S found → found ≡ None
    → (f : ScopeFault) → S f → ⊥
none_stands S None h is = h.first
none_stands S (Some x) h is = cc

pub new-requires : goal.new-requires
new-requires g c κs =
    none_stands (FaultStands (tree_of c.args.program)) c.in_ok-first_fault.field-0 c.in_ok-first_fault.ensures c.in-None.is κs
