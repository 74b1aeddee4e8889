-- What the pairs from the link on leave is gathered, and the link leads to the last of the others.
use Rattle.std.proofs.Common.{ℕ, []}
use Rattle.summaries.specs.Exits.{pair_at, LeadsTo}
use Rattle.summaries.specs.Grows.{AddsTo}
use Rattle.summaries.proofs.WalkLemmas.{IsDoneFrom, IsLeftAt}
use Rattle.summaries.proofs.reading.add_pairs_of.Given as goal

abbrev pub decreases-links : goal.decreases-links
decreases-links g l = l.link

abbrev pub invariant-links : goal.invariant-links
invariant-links g l = record {
  leads : (before : ℕ) × LeadsTo (pair_at l.exits) l.entry before l.link;
  gathered : AddsTo (IsDoneFrom l.exits l.entry l.link (IsLeftAt l.exits l.entry)) [] l.left.items;
}
