-- The pairs of the entry from the link on are added, and the link leads to the last of the rest.
use Rattle.std.proofs.Common.{◌≡◌, ℕ, true}
use Rattle.std.specs.Map.{keys_of}
use Rattle.summaries.specs.Links.{owners, IsLink}
use Rattle.summaries.specs.Hashes.{is_one_of, IsLookedUp}
use Rattle.summaries.proofs.FindingLemmas.{FromOn}
use Rattle.summaries.proofs.finding.hash_all.Given as goal

abbrev pub decreases-loop-link : goal.decreases-loop-link
decreases-loop-link g l = l.link

abbrev pub invariant-loop-link : goal.invariant-loop-link
invariant-loop-link g l = record {
  leads : (bound : ℕ) × IsLink (owners l.pairs) l.entry bound l.link;
  added : FromOn l.pairs l.entry (λ b. is_one_of l.many.keys (l.entry, b) ≡ true) l.link;
  looked : IsLookedUp (keys_of l.pairs) l.initial.many.keys l.many.keys;
}
