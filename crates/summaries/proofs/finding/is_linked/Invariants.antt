-- The pairs of the entry from the link on are others, and the link leads to the last of the rest.
use Rattle.std.proofs.Common.{◌≡◌, ℕ}
use Rattle.summaries.specs.Found.{left}
use Rattle.summaries.specs.Links.{owners, IsLink}
use Rattle.summaries.proofs.FindingLemmas.{FromOn}
use Rattle.summaries.proofs.finding.is_linked.Given as goal

abbrev pub decreases-loop-link : goal.decreases-loop-link
decreases-loop-link l = l.link

abbrev pub invariant-loop-link : goal.invariant-loop-link
invariant-loop-link l = record {
  leads : (bound : ℕ) × IsLink (owners l.pairs) l.entry bound l.link;
  others : FromOn l.pairs l.entry (λ b. b ≡ left l.globals l.returned → ⊥) l.link;
}
