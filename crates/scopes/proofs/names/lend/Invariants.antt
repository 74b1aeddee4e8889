use Rattle.std.proofs.Common.{◌≡◌, ◌++◌, drop}
use Rattle.trees.specs.Trees.{names_of}
use Rattle.resolved.specs.Statements.{lent}
use Rattle.scopes.proofs.names.lend.Given as goal

abbrev pub invariant-loop-name : goal.invariant-loop-name
invariant-loop-name g l = lent l.into.items ++ names_of (drop l.name-index l.names) ≡ lent l.initial.into.items ++ names_of l.names
