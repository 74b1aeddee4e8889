-- None of the names so far has the text.
use Rattle.std.proofs.Common.{◌≡◌, drop}
use Rattle.language.specs.Resolve.{is_declared}
use Rattle.trees.specs.Trees.{names_of}
use Rattle.trees.proofs.names.declares.Given as goal

abbrev pub invariant-loop-name : goal.invariant-loop-name
invariant-loop-name g l = is_declared l.text (names_of (drop l.name-index l.names)) ≡ is_declared l.text (names_of l.names)
