use Rattle.std.proofs.Common.{take}
use Rattle.scopes.specs.Known.{AreTexts}
use Rattle.resolved.specs.Statements.{lent}
use Rattle.scopes.proofs.known.texts.Given as goal

abbrev pub invariant-loop-name : goal.invariant-loop-name
invariant-loop-name g l = AreTexts l.seen (lent (take l.name-index l.names))
