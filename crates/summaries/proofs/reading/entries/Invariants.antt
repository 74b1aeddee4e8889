-- The entries so far are the keys so far that have callers.
use Rattle.std.proofs.Common.{◌≡◌, nat_eq, take}
use Rattle.std.specs.List.{filter}
use Rattle.indexmap.specs.IndexMap.{keys}
use Rattle.groups.specs.Under.{under}
use Rattle.summaries.proofs.SortedLemmas.{has_any}
use Rattle.summaries.proofs.reading.entries.Given as goal

abbrev pub invariant-loop-at : goal.invariant-loop-at
invariant-loop-at g l =
    l.entries.items ≡ filter (λ a. has_any (under nat_eq l.fn.callers.by_key a)) (take l.at (keys l.fn.callers.by_key))
