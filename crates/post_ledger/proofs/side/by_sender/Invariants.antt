-- What was found so far and what is still to be found are together all of the sender's messages.
use Rattle.std.proofs.Common.{◌≡◌, ◌++◌, drop}
use Rattle.post_ledger.specs.Sides.{on_side}
use Rattle.post_ledger.proofs.side.by_sender.Given as goal

abbrev pub invariant-loop-event : goal.invariant-loop-event
invariant-loop-event g l = l.messages.items ++ on_side l.side l.sender (drop l.event-index l.history) ≡ on_side l.side l.sender l.history
