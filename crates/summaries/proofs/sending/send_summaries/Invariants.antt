-- The summaries of the pairs from the link on are sent, and the link leads to the last of the others.
use Rattle.std.proofs.Common.{◌≡◌, ℕ}
use Rattle.summaries.specs.Exits.{pair_at, LeadsTo}
use Rattle.summaries.specs.Grows.{AddsTo, IsTold}
use Rattle.summaries.proofs.WalkLemmas.{IsDoneFrom}
use Rattle.summaries.proofs.sending.send_summaries.Given as goal

abbrev pub decreases-pairs : goal.decreases-pairs
decreases-pairs g l = l.link

abbrev pub invariant-pairs : goal.invariant-pairs
invariant-pairs g l = record {
  leads : (before : ℕ) × LeadsTo (pair_at l.exits) l.entry before l.link;
  sent : AddsTo (IsDoneFrom l.exits l.entry l.link (λ at. IsTold at l.caller)) l.initial.outbox.sent.items l.outbox.sent.items;
  answered : l.outbox.answered ≡ l.initial.outbox.answered;
}
