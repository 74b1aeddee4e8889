-- The lines of the procedures so far.
use Rattle.std.proofs.Common.{◌≡◌, ◌++◌, take}
use Rattle.std.specs.String.{string_bytes}
use Rattle.trees.specs.Trees.{tree_of}
use Rattle.cli.specs.Counts.{counts_lines, procedure_names}
use Rattle.cli.specs.Counted.{counted_each}
use Rattle.cli.proofs.counts.push_counts.Given as goal

abbrev pub invariant-loop-number : goal.invariant-loop-number
invariant-loop-number g l =
    string_bytes l.lines ≡ string_bytes l.initial.lines
    ++ counts_lines (take l.number (procedure_names (tree_of l.program)))
    (take l.number (counted_each l.summaries.procedures l.mailboxes))
