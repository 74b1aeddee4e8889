-- The entries so far are those of the map so far.
use Rattle.std.proofs.Common.{◌≡◌, take}
use Rattle.summaries.specs.Links.{last_links}
use Rattle.summaries.proofs.reading.entries_left.Given as goal

abbrev pub invariant-loop-at : goal.invariant-loop-at
invariant-loop-at g l = l.entries.items ≡ take l.at (last_links l.fn.exits.by_entry.entries)
