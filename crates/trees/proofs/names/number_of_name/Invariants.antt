-- None of the names so far has the text.
use Rattle.std.proofs.Common.{◌≡◌, ◌+◌, ◌≤◌, drop}
use Rattle.language.specs.Resolve.{number_of}
use Rattle.trees.specs.Trees.{names_of}
use Rattle.trees.proofs.names.number_of_name.Given as goal

abbrev pub invariant-loop-name : goal.invariant-loop-name
invariant-loop-name g l =
    (l.at ≤ l.name-index) × (l.at + number_of l.text (names_of (drop l.name-index l.names)) ≡ number_of l.text (names_of l.names))
