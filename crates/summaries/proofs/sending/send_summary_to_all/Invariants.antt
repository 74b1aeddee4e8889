use Rattle.std.proofs.Common.{◌≡◌, take}
use Rattle.summaries.specs.Grows.{AddsTo, OfSome, IsTold}
use Rattle.summaries.proofs.sending.send_summary_to_all.Given as goal

abbrev pub invariant-loop-caller : goal.invariant-loop-caller
invariant-loop-caller g l =
    AddsTo (OfSome (IsTold l.at) (take l.caller-index l.callers)) l.initial.outbox.sent.items l.outbox.sent.items
    × (l.outbox.answered ≡ l.initial.outbox.answered)
