-- The pairs of the exits so far are appended.
use Rattle.std.proofs.Common.{◌≡◌, ◌++◌, map, take}
use Rattle.summaries.specs.Exits.{pair}
use Rattle.summaries.proofs.reading.append_pairs.Given as goal

abbrev pub invariant-loop-exit : goal.invariant-loop-exit
invariant-loop-exit g l = l.pairs.items ≡ l.initial.pairs.items ++ map (pair l.fn.entry) (take l.exit-index l.left)
