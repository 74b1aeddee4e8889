use Rattle.std.proofs.Common.{drop, take}
use Rattle.scopes.specs.Find.{FoundSoFar}
use Rattle.checked.specs.Faults.{Repeated}
use Rattle.scopes.specs.Known.{AreTexts, IsAgain}
use Rattle.resolved.specs.Statements.{lent}
use Rattle.scopes.proofs.known.repeated.Given as goal

abbrev pub invariant-loop-name : goal.invariant-loop-name
invariant-loop-name g l = record {
  told : AreTexts l.seen (lent (take l.name-index l.names));
  kept : FoundSoFar (Repeated (lent l.names)) (IsAgain (lent (take l.name-index l.names)) (lent (drop l.name-index l.names))) l.found;
}
