-- The pairs so far are those of the entries so far.
use Rattle.std.proofs.Common.{◌↔◌, ℕ, take}
use Rattle.language.specs.Lists.{Member}
use Rattle.summaries.specs.declared.pair.Pair.{Pair}
use Rattle.summaries.specs.Grows.{OfSome}
use Rattle.summaries.specs.Readings.{IsPairOf}
use Rattle.summaries.proofs.reading.pairs_by_entry.Given as goal

abbrev pub invariant-loop-entry : goal.invariant-loop-entry
invariant-loop-entry g l = (x : Pair) → Member x l.pairs.items
    ↔ OfSome (λ (known : ℕ × ℕ). IsPairOf l.fn.exits known.0) (take l.entry-index l.fn.entries) x
