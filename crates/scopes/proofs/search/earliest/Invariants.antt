use Rattle.std.specs.Fn.{FnReturnsAt}
use Rattle.scopes.specs.Find.{EarliestTo}
use Rattle.scopes.proofs.search.earliest.Given as goal

abbrev pub invariant-loop-item : goal.invariant-loop-item
invariant-loop-item g l = EarliestTo (FnReturnsAt g.F.Fn l.search) l.items l.item-index l.found
