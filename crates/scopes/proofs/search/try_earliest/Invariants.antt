use Rattle.std.specs.Prelude.{Ok}
use Rattle.std.specs.Fn.{FnReturnsAt}
use Rattle.scopes.specs.Find.{EarliestTo}
use Rattle.scopes.proofs.search.try_earliest.Given as goal

abbrev pub invariant-loop-item : goal.invariant-loop-item
invariant-loop-item g l = EarliestTo (λ x r. FnReturnsAt g.F.Fn l.search x (Ok r)) l.items l.item-index l.found
